-- The life of windows, and what it says of their bytes.
use Rattle.std.proofs.Common.{◌≡◌, ℕ, List, [], ◌∷◌, ◌++◌, length, drop, sym, refl, ap, ◌∙◌, append_assoc, append-nil, arith}
use Rattle.std.proofs.Math.Seq.{drop-append_seam}
use Rattle.std.specs.List.{flat_map}
use Rattle.rules.specs.Sessions.{Window, no_window, window_at}
use Rattle.service_law.specs.Along.{at_end, next}
use Rattle.service_law.specs.Marks.{WindowMark, opened, seen, consumed, appended, gone, up_to, WindowGoes, WindowsGo, bytes_used, used}
use Rattle.service_law.specs.Marks as life
use Rattle.service_law.proofs.Chains.{Chain, chain_goes}

-- a mark fixes the window behind it, and tells what it was
abbrev pub window_behind : Window → WindowMark → Window
window_behind w (opened offset d) = window_at offset d
window_behind w (seen x) = w
window_behind w (consumed u) = up_to w (drop (length u) w.unread)
window_behind w (appended u) = record w { cap = 0; unread = [] }
window_behind w m = no_window

abbrev pub MayCome : Window → WindowMark → Type 0
MayCome w (seen x) = w ≡ x
MayCome w (consumed u) = w.unread ≡ u ++ drop (length u) w.unread
MayCome w (appended u) = w.unread ≡ u
MayCome w (gone u) = w.unread ≡ u
MayCome w m = w.unread ≡ []

abbrev pub Lives : Window → List WindowMark → Window → Type 0
Lives w ws x = Chain MayCome window_behind w ws x

goes : (w : Window) (m : WindowMark) → MayCome w m → WindowGoes w m (window_behind w m)
goes w m h = grind (arith, life.opens, life.sees, life.consumes, life.appends, life.empties, life.goes)

pub windows_go : (w : Window) (ws : List WindowMark) (x : Window) → Lives w ws x → WindowsGo w ws x
windows_go w ws x p = chain_goes MayCome window_behind WindowGoes (λ w. w) goes ws w x p

-- The bytes of the windows opened are used in order, and then there are the unread

abbrev pub bytes_opened : WindowMark → List ℕ
bytes_opened (opened offset d) = d
bytes_opened m = []

abbrev pub opened_bytes : List WindowMark → List ℕ
opened_bytes ws = flat_map bytes_opened ws

one_more : (w : Window) (m : WindowMark) (o v k : List ℕ) → MayCome w m → (window_behind w m).unread ++ o ≡ v ++ k → w.unread ++ (bytes_opened m ++ o) ≡ (bytes_used m ++ v) ++ k
one_more w m o v k h e = grind (arith, append_assoc, append-nil)

pub in_order : (w : Window) (ws : List WindowMark) (x : Window) → Lives w ws x → w.unread ++ opened_bytes ws ≡ used ws ++ x.unread
in_order w [] x p = append-nil w.unread ∙ ap (λ y. y.unread) (sym p)
in_order w (m ∷ ws) x p = one_more w m (opened_bytes ws) (used ws) x.unread p.0 (in_order (window_behind w m) ws x p.1)

-- The life of windows tells the chain

may_be : {w x : Window} {m : WindowMark} → WindowGoes w m x → MayCome w m × (x ≡ window_behind w m)
may_be g = grind (arith, drop-append_seam)

pub lives_of : {w x : Window} {ws : List WindowMark} → WindowsGo w ws x → Lives w ws x
lives_of at_end = refl
lives_of (next g p) = let m = may_be g in (m.0, rw (← m.1) (lives_of p))
