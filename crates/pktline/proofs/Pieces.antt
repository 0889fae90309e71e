-- What stands behind the entries of a piece.
use Rattle.std.proofs.Common.{◌≡◌, ℕ, ◌+◌, List, [], length, drop, Option, Some, None, sym, ap, ◌∙◌, arith}
use Rattle.std.proofs.lemmas.List.{drop-drop, drop_all}
use Rattle.entries.specs.Entries.{Found, behind, size}
use Rattle.pktline.specs.Pieces.{IsEnd}

pub none_left : (s : List ℕ) → IsEnd [] s
none_left s = (length s, sym (drop_all (length s) s (omega arith)))

pub end_behind : (e : Option Found) (r s t : List ℕ) → IsEnd r s → t ≡ behind e r → IsEnd t s
end_behind None r s t h f = rw f h
end_behind (Some e) r s t h f = (h.0 + size e, f ∙ ap (λ x. drop (size e) x) h.1 ∙ drop-drop (size e) h.0 s)
