-- Worked runs of sending.
use Rattle.std.specs.Prelude.{◌≡◌, ℕ, List, [], ◌∷◌, length, replicate, Some, None, Ok, Err, codes}
use Rattle.lines.specs.declared.Channel.{Channel}
use Rattle.lines.specs.Meaning.{channel_of}
use Rattle.lines.specs.Refusals.{refused}
use Rattle.lines.specs.Format.{payload, flush, delimiter, response_end, framed}
use Rattle.links.specs.Slots.{Slot, place, fails}
use Rattle.rules.specs.Sending.{flush_line, delimiter_line, response_end_line, data_line, text_line, error_line, band_line, line_to_send, Mode, binary, text}
use Rattle.rules.specs.Sending.{encode, new_writer, enable, write, counts, done, Sender, Sends}

-- Runs

-- writers in these modes, and a sink: the bytes that it accepted, and what is to come
abbrev pub sender : List Mode → List ℕ → List Slot → Sender
sender modes accepted room = record { modes = modes; sink = record { home = 0; accepted = accepted; beyond = []; room = room } }

abbrev pub places : ℕ → List Slot
places n = replicate n place

pub record SendingExamples : Type 0 where
  -- an encoder sends one line, and answers how many bytes that is; a newline ends a text, also behind a newline
  pub error_x : Sends (sender [] [] (places 10)) (encode (error_line (codes "x"))) (counts (Ok 9)) (payload (codes "ERR x") ∷ []) (sender [] (codes "0009ERR x") (places 1))
  pub text_a : Sends (sender [] [] (places 8)) (encode (text_line (codes "a\n"))) (counts (Ok 7)) (payload (codes "a\n\n") ∷ []) (sender [] (codes "0007a\n\n") (places 1))
  -- a marker is four bytes
  pub flush_four : Sends (sender [] [] (places 5)) (encode flush_line) (counts (Ok 4)) (flush ∷ []) (sender [] (codes "0000") (places 1))
  pub delimiter_four : Sends (sender [] [] (places 5)) (encode delimiter_line) (counts (Ok 4)) (delimiter ∷ []) (sender [] (codes "0001") (places 1))
  pub response_end_four : Sends (sender [] [] (places 5)) (encode response_end_line) (counts (Ok 4)) (response_end ∷ []) (sender [] (codes "0002") (places 1))
  -- a writer begins in binary mode; in text mode it adds a newline, also behind a newline; it answers how many bytes it was given
  pub begins_binary : Sends (sender [] [] (places 8)) new_writer done [] (sender (binary ∷ []) [] (places 8))
  pub writes_as_is : Sends (sender (binary ∷ []) [] (places 8)) (write 0 (codes "a\n")) (counts (Ok 2)) (payload (codes "a\n") ∷ []) (sender (binary ∷ []) (codes "0006a\n") (places 2))
  pub turns_to_text : Sends (sender (binary ∷ []) [] (places 8)) (enable text 0) done [] (sender (text ∷ []) [] (places 8))
  pub writes_text : Sends (sender (text ∷ []) [] (places 8)) (write 0 (codes "a\n")) (counts (Ok 2)) (payload (codes "a\n\n") ∷ []) (sender (text ∷ []) (codes "0007a\n\n") (places 1))
  -- no data is refused
  pub no_data : Sends (sender [] [] (places 8)) (encode (data_line [])) (counts (Err (refused 18 None))) [] (sender [] [] (places 8))
  pub no_text : Sends (sender [] [] (places 8)) (encode (text_line [])) (counts (Err (refused 18 None))) [] (sender [] [] (places 8))
  pub no_band_data : (k : Channel) → Sends (sender [] [] (places 8)) (encode (band_line k [])) (counts (Err (refused 18 None))) [] (sender [] [] (places 8))
  pub no_input : Sends (sender (text ∷ []) [] (places 8)) (write 0 []) (counts (Err (refused 18 None))) [] (sender (text ∷ []) [] (places 8))
  -- what a sink accepted before its fault stays accepted, and no line is whole; and a sink may take nothing
  pub fault_inside : Sends (sender [] [] (place ∷ place ∷ place ∷ fails 9 ∷ places 8)) (encode (error_line (codes "x"))) (counts (Err (refused 20 (Some 9)))) [] (sender [] (codes "000") (places 8))
  pub no_place : Sends (sender [] [] []) (encode (error_line (codes "x"))) (counts (Err (refused 19 None))) [] (sender [] [] [])
  -- data on a band has up to 65,515 bytes, and an error message up to 65,512
  pub longest_on_band : (k : Channel) (d : List ℕ) → length d ≡ 65515 → line_to_send (band_line k d) ≡ Ok (framed (channel_of k ∷ []) d [])
  pub over_on_band : (k : Channel) (d : List ℕ) → length d ≡ 65516 → line_to_send (band_line k d) ≡ Err (refused 17 (Some 65517))
  pub longest_error : (d : List ℕ) → length d ≡ 65512 → line_to_send (error_line d) ≡ Ok (framed (codes "ERR ") d [])
  pub over_error : (d : List ℕ) → length d ≡ 65513 → line_to_send (error_line d) ≡ Err (refused 17 (Some 65517))
