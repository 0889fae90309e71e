-- What befalls units and windows in the course of a service, and the short life of each.
use Rattle.std.specs.Prelude.{◌≡◌, ℕ, ◌-◌, ◌<◌, if◌then◌else◌, List, [], ◌∷◌, ◌++◌, length, flat_map, fold, Some, None, Ok, Err, Option, Result, ◌==◌}
use Rattle.lines.specs.Refusals.{Refusal, number_of}
use Rattle.lines.specs.Format.{Line, payload, and_then, payload_of, message}
use Rattle.rules.specs.Handlers.{Rule}
use Rattle.rules.specs.Readers.{View, nothing, the_line, the_message, Phase, ready, holds, stopped, failed, shortened}
use Rattle.rules.specs.Sessions.{Place, to_window, to_none, to_refusal, Window, no_window, window_at, moved}
use Rattle.service_law.specs.Along.{Along}

-- a unit of the cut: a line, or a refusal
abbrev pub Piece : Type 0
Piece = Result Line Refusal

-- Units

-- between two marks a reader has no unit; has one that was taken and not yet reported; or is done, at a marker or after an ERR line
pub data Standing : Type 0 where
  free : Standing
  has : Piece → Standing
  done : Option Line → Standing

-- what befalls a unit: it is taken; the held one, or that the reader is done, is shown; it is edited; it is reported, and goes to a place.
-- And what befalls a reader: it is found as it stands; it is reset.
pub data UnitMark : Type 0 where
  took : Piece → UnitMark
  shown : Standing → UnitMark
  edited : ℕ → ℕ → UnitMark
  reported : Piece → Place → UnitMark
  found : Standing → UnitMark
  resumed : UnitMark

-- a unit that went to None stopped the reader, one that was refused with 8 ended it; behind any other it is free
abbrev pub line_in : Piece → Option Line
line_in (Ok l) = Some l
line_in (Err e) = None

abbrev pub refused_behind : Piece → Refusal → Standing
refused_behind (Ok l) e = if number_of e == 8 then done None else free
refused_behind (Err x) e = free

abbrev pub behind : Piece → Place → Standing
behind u to_none = done (line_in u)
behind u (to_refusal e) = refused_behind u e
behind u place = free

abbrev pub released : Standing → Standing
released (done m) = free
released a = a

-- the life of a unit: it is taken where none is held; shown and edited while it is held; and reported once
pub data UnitGoes : Standing → UnitMark → Standing → Type 0 where
  takes : {u : Piece} → UnitGoes free (took u) (has u)
  shows : {a : Standing} → UnitGoes a (shown a) a
  edits : {d : List ℕ} {position b : ℕ} → position < length d → UnitGoes (has (Ok (payload d))) (edited position b) (has (Ok (payload (shortened position b d))))
  reports : {u : Piece} {place : Place} → UnitGoes (has u) (reported u place) (behind u place)
  finds : {a : Standing} → UnitGoes a (found a) a
  resumes : {a : Standing} → UnitGoes a resumed (released a)

abbrev pub UnitsGo : Standing → List UnitMark → Standing → Type 0
UnitsGo a us b = Along UnitGoes a us b

-- the units that were taken, and those that were reported
abbrev pub unit_taken : UnitMark → List Piece
unit_taken (took u) = u ∷ []
unit_taken m = []

abbrev pub taken : List UnitMark → List Piece
taken us = flat_map unit_taken us

abbrev pub unit_reported : UnitMark → List Piece
unit_reported (reported u place) = u ∷ []
unit_reported m = []

abbrev pub reports_of : List UnitMark → List Piece
reports_of us = flat_map unit_reported us

-- a unit as the edits leave it
abbrev pub edit_unit : ℕ → ℕ → Piece → Piece
edit_unit position b (Ok (payload d)) = Ok (payload (shortened position b d))
edit_unit position b u = u

-- a unit as edited up to its report
abbrev pub edits_on : Piece → List UnitMark → Piece
edits_on u [] = u
edits_on u (took v ∷ us) = u
edits_on u (edited position b ∷ us) = edits_on (edit_unit position b u) us
edits_on u (reported v place ∷ us) = u
edits_on u (m ∷ us) = edits_on u us

-- the units that were taken, each as edited
abbrev pub as_edited : List UnitMark → List Piece
as_edited [] = []
as_edited (took u ∷ us) = edits_on u us ∷ as_edited us
as_edited (m ∷ us) = as_edited us

-- how a reader stands by its phase, and the line that it holds
abbrev pub standing : Phase → Standing
standing ready = free
standing (holds l) = has (Ok l)
standing (stopped l) = done (Some l)
standing failed = done None

abbrev pub held : Phase → List Piece
held (holds l) = Ok l ∷ []
held p = []

-- what the view shows: the held line; the line last reported; the message of an ERR line that was refused with 8; and nothing where
-- that was no line, or went to None
abbrev pub message_view : Option (List ℕ) → View
message_view (Some m) = the_message m
message_view None = nothing

abbrev pub line_view : Piece → View
line_view (Ok l) = the_line l
line_view (Err e) = nothing

abbrev pub refused_view : Piece → Refusal → View
refused_view (Ok l) e = if number_of e == 8 then message_view (and_then (payload_of l) message) else the_line l
refused_view (Err x) e = nothing

abbrev pub view_at : Piece → Place → View
view_at u to_none = nothing
view_at u (to_refusal e) = refused_view u e
view_at u place = line_view u

abbrev pub standing_view : Standing → View
standing_view (has u) = line_view u
standing_view a = nothing

-- an edit changes the line that is shown, since that is the held one
abbrev pub edited_view : ℕ → ℕ → View → View
edited_view position b (the_line l) = line_view (edit_unit position b (Ok l))
edited_view position b v = v

abbrev pub view_behind : View → UnitMark → View
view_behind v (shown a) = standing_view a
view_behind v (edited position b) = edited_view position b v
view_behind v (reported u place) = view_at u place
view_behind v m = v

abbrev pub viewed : View → List UnitMark → View
viewed v us = fold view_behind v us

-- what the reports gave to windows, and how their texts move a handler, each once
abbrev pub place_bytes : Place → List ℕ
place_bytes (to_window offset d) = d
place_bytes place = []

abbrev pub bytes_given : UnitMark → List ℕ
bytes_given (reported u place) = place_bytes place
bytes_given m = []

abbrev pub given_to_windows : List UnitMark → List ℕ
given_to_windows us = flat_map bytes_given us

abbrev pub told_by : {H : Type 0} → Rule H → H → UnitMark → H
told_by rule h (reported u place) = moved rule h place
told_by rule h m = h

abbrev pub told : {H : Type 0} → Rule H → H → List UnitMark → H
told rule h us = fold (told_by rule) h us

-- Windows

-- what befalls a window: it opens at an offset, with bytes; it is seen as it stands; bytes of it are consumed, or all are appended to a
-- text; a fill meets None; the session is left, and the unread bytes are gone with it
pub data WindowMark : Type 0 where
  opened : ℕ → List ℕ → WindowMark
  seen : Window → WindowMark
  consumed : List ℕ → WindowMark
  appended : List ℕ → WindowMark
  emptied : WindowMark
  gone : List ℕ → WindowMark

-- the window whose unread bytes are v, cap being where it was
abbrev pub up_to : Window → List ℕ → Window
up_to w v = record w { pos = w.cap - length v; unread = v }

-- the life of a window: it opens where no byte is unread; its bytes are used in order, none twice
pub data WindowGoes : Window → WindowMark → Window → Type 0 where
  opens : {w : Window} {offset : ℕ} {d : List ℕ} → w.unread ≡ [] → WindowGoes w (opened offset d) (window_at offset d)
  sees : {w : Window} → WindowGoes w (seen w) w
  consumes : {w : Window} {u v : List ℕ} → w.unread ≡ u ++ v → WindowGoes w (consumed u) (up_to w v)
  appends : {w : Window} {u : List ℕ} → w.unread ≡ u → WindowGoes w (appended u) (record w { cap = 0; unread = [] })
  empties : {w : Window} → w.unread ≡ [] → WindowGoes w emptied no_window
  goes : {w : Window} {u : List ℕ} → w.unread ≡ u → WindowGoes w (gone u) no_window

abbrev pub WindowsGo : Window → List WindowMark → Window → Type 0
WindowsGo w ws x = Along WindowGoes w ws x

-- the bytes that windows gave: consumed, appended, or gone with a session
abbrev pub bytes_used : WindowMark → List ℕ
bytes_used (consumed u) = u
bytes_used (appended u) = u
bytes_used (gone u) = u
bytes_used m = []

abbrev pub used : List WindowMark → List ℕ
used ws = flat_map bytes_used ws
