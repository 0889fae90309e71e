-- What the values of the code stand for.
use Rattle.std.specs.Prelude.{ℕ, Ok, Err, Result}
use Rattle.lines.specs.declared.Channel.{Channel}
use Rattle.lines.specs.declared.Channel.TheVariants as channels
use Rattle.lines.specs.declared.PacketLineRef.{PacketLineRef}
use Rattle.lines.specs.declared.PacketLineRef.TheVariants.{Data, Flush, Delimiter, ResponseEnd}
use Rattle.lines.specs.declared.BandRef.{BandRef}
use Rattle.lines.specs.declared.BandRef.TheVariants as bands
use Rattle.lines.specs.declared.BandError.{BandError}
use Rattle.lines.specs.declared.BandError.TheVariants.{NoBand, UnknownBand}
use Rattle.lines.specs.declared.decode.DecodeFault.{DecodeFault}
use Rattle.lines.specs.declared.decode.DecodeFault.TheVariants.{NotHex, LengthThree, EmptyLine, TooLong, Missing}
use Rattle.lines.specs.declared.decode.PacketLineOrWantedSize.{PacketLineOrWantedSize}
use Rattle.lines.specs.declared.decode.PacketLineOrWantedSize.TheVariants as sizes
use Rattle.lines.specs.declared.decode.Stream.{Stream}
use Rattle.lines.specs.declared.decode.Stream.TheVariants as streams
use Rattle.lines.specs.declared.refusal.Refusal.{Refusal as Told}
use Rattle.lines.specs.Refusals.{Refusal, refused, not_hex, length_three, empty_line, too_long, missing, no_band, unknown_band}
use Rattle.lines.specs.Format.{Line, payload, flush, delimiter, response_end, Band, on}
use Rattle.lines.specs.Decoding.{Prefix, marks, wants, Streamed, complete, incomplete}

-- an answer, by what its value and its fault stand for
abbrev pub answered : {X Y E F : Type 0} → (X → Y) → (E → F) → Result X E → Result Y F
answered f g (Ok x) = Ok (f x)
answered f g (Err e) = Err (g e)

abbrev pub line_of : PacketLineRef → Line
line_of (Data d) = payload d.now
line_of Flush = flush
line_of Delimiter = delimiter
line_of ResponseEnd = response_end

abbrev pub prefix_of : PacketLineOrWantedSize → Prefix
prefix_of (sizes.Line l) = marks (line_of l)
prefix_of (sizes.Wanted n) = wants n

abbrev pub streamed_of : Stream → Streamed
streamed_of (streams.Complete l n) = complete (line_of l) n
streamed_of (streams.Incomplete n) = incomplete n

abbrev pub channel_of : Channel → ℕ
channel_of channels.Data = 1
channel_of channels.Progress = 2
channel_of channels.Error = 3

abbrev pub band_of : BandRef → Band
band_of (bands.Data d) = on 1 d.now
band_of (bands.Progress d) = on 2 d.now
band_of (bands.Error d) = on 3 d.now

-- the row that a refusal of the code tells
abbrev pub row_of : Told → Refusal
row_of r = refused r.number r.value

-- the row of the table that a fault belongs to
abbrev pub decode_refusal : DecodeFault → Refusal
decode_refusal NotHex = not_hex
decode_refusal LengthThree = length_three
decode_refusal EmptyLine = empty_line
decode_refusal (TooLong n) = too_long n
decode_refusal (Missing n) = missing n

abbrev pub band_refusal : BandError → Refusal
band_refusal NoBand = no_band
band_refusal (UnknownBand b) = unknown_band b
