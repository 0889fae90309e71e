-- The refusals of reader, sessions and sending, by the numbers of docs/REFUSALS.md.
use Rattle.std.specs.Prelude.{ℕ, Some, None}
use Rattle.lines.specs.Refusals.{Refusal, refused}

-- an ERR line while the flag is on; its message is shown by the view
abbrev pub error_line : Refusal
error_line = refused 8 None

-- a handler says stop at a text that it was told
abbrev pub handler_stops : Refusal
handler_stops = refused 11 None

-- a marker is handed on where data is wanted, bands being off
abbrev pub marker_in_data : Refusal
marker_in_data = refused 12 None

-- a whole line is wanted while a window is open
abbrev pub window_open : Refusal
window_open = refused 13 None

-- a window is not UTF-8
abbrev pub not_text : Refusal
not_text = refused 14 None

-- a window does not fit into the text
abbrev pub no_room : Refusal
no_room = refused 15 None

-- an edit where no line is held, or at a position that is not below its payload's length
abbrev pub not_held : Refusal
not_held = refused 16 None

-- prefix, data and suffix together exceed the limit of a payload, with their total
abbrev pub exceeds : ℕ → Refusal
exceeds total = refused 17 (Some total)

-- there is no data to send
abbrev pub no_data : Refusal
no_data = refused 18 None
