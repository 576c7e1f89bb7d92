-- Texts that are put into a buffer one behind the other.
use Rattle.std.proofs.Common.{◌≡◌, ℕ, ◌+◌, ◌≤◌, List, ◌++◌, length, take, drop, sym, ap, ap₂, ◌∙◌, arith, length-append, length-take-le, length-drop}
use Rattle.std.proofs.lemmas.List.{append_assoc, drop-drop}
use Rattle.std.proofs.Math.Seq.{take-append_seam, drop-append-add}
use Rattle.diagram.specs.Printing.{Puts}

module _ (b c : List ℕ) (at r : ℕ) (s u : List ℕ) (fits : at + length (s ++ u) ≤ length b) where
  -- the first of two fits where both do
  pub room_first : at + length s ≤ length b
  room_first = omega (arith, fits, length-append s u)

  start : length (take at b) ≡ at
  start = length-take-le at b (omega (arith, fits))

  module _ (p : Puts b c at s r) where
    abbrev front : List ℕ
    front = take at b ++ s

    abbrev rest : List ℕ
    rest = drop (at + length s) b

    whole : c ≡ front ++ rest
    whole = p.is ∙ sym (append_assoc (take at b) s rest)

    long : length front ≡ r
    long = omega (arith, length-append (take at b) s, start, p.place)

    -- and then the second
    pub room_next : r + length u ≤ length c
    room_next =
        omega (arith, ap length whole, length-append front rest, long, length-drop (at + length s) b, p.place, fits, length-append s u)

    pub puts_then : (d : List ℕ) (q : ℕ) → Puts c d r u q → Puts b d at (s ++ u) q
    puts_then d q v = record {
      place = omega (arith, v.place, p.place, length-append s u);
      is = v.is ∙ (ap₂ (λ x y. x ++ (u ++ y)) head tail ∙ (append_assoc (take at b) s (u ++ drop (at + length (s ++ u)) b) ∙ ap (λ x. take at b ++ x) (sym (append_assoc s u (drop (at + length (s ++ u)) b)))));
    }
      where
        head : take r c ≡ front
        head = ap₂ take (sym long) whole ∙ take-append_seam front rest

        sums : at + length s + length u ≡ at + length (s ++ u)
        sums = omega (arith, length-append s u)

        tail : drop (r + length u) c ≡ drop (at + length (s ++ u)) b
        tail =
            ap₂ (λ n l. drop (n + length u) l) (sym long) whole
            ∙ (drop-append-add front rest (length u) ∙ (drop-drop (length u) (at + length s) b ∙ ap (λ n. drop n b) sums))
