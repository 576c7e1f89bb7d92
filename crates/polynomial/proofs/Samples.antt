-- The examples, by computation and by the laws.
use Rattle.std.proofs.Common.{◌≡◌, ℕ, ◌≢◌, [], ◌∷◌, ℤ, pos, nat_abs, sym, refl, ap, ◌∙◌, inl, inr, arith}
use Rattle.polynomial.specs.Coefficients.{coefficient}
use Rattle.polynomial.specs.Elements.{factor}
use Rattle.polynomial.specs.Examples.{Examples, P, a, b, six_a_four, three_a_two, just_b, ab_b, entry_b}
use Rattle.polynomial.specs.Diagrams.{Inside}
use Rattle.polynomial.specs.Lists.{Among, Distinct}
use Rattle.polynomial.specs.Polynomials.{Polynomial, constant}
use Rattle.polynomial.specs.Trees.{Tree, Reduced, Lawful, value}
use Rattle.polynomial.specs.Working.{Leads, times, whole}
use Rattle.polynomial.proofs.Down.{down-zero, constant-mul}
use Rattle.polynomial.proofs.Rings.{mul_swap}
use Rattle.polynomial.proofs.Theorems.{ring_laws, degree_laws}
use Rattle.whole.specs.IntegerLaws.{integers_sound}
use Rattle.whole.specs.IntegerRing.{integer_laws}
use Rattle.whole.specs.Integers.{integers, integer_ring}

differ : (m n : ℕ) → (m ≡ n → ⊥) → pos m ≢ pos n
differ m n h e = h (ap nat_abs e)

reduced : Reduced integers 2 three_a_two
unfolding factor
reduced = record {
  known = omega arith;
  after = tt;
  from = tt;
  leads = differ 3 0 (λ e. omega arith);
  bare = λ e. refl;
  coded_p = omega arith;
  coded_q = omega arith;
  factored = refl;
  below = tt;
  beside = tt;
}

lawful : Lawful integers (pos 2) three_a_two
lawful = record { bare = λ e. absurd (differ 2 0 (λ z. omega arith) e); light = omega arith }

-- 2 (2 + a 3) = 4 + 6 a
stands_for : value integer_ring 2 (pos 2) three_a_two ≡ six_a_four
stands_for =
    let L = ring_laws integers integers_sound 2 in
    let c : ℤ → Polynomial ℤ 2 = constant integer_ring 2 in
    let two = constant-mul integer_laws 2 (pos 2) (pos 2) in
    let three = constant-mul integer_laws 2 (pos 2) (pos 3) in
    cc (
      L.mul-add (c (pos 2)) (P.mul (c (pos 2)) P.one) (P.mul a (P.mul (c (pos 3)) P.one)),
      L.mul-one (c (pos 2)),
      L.mul-one (c (pos 3)),
      mul_swap L (c (pos 2)) a (c (pos 3)),
      two,
      three,
      L.mul_comm a (c (pos 6)),
      L.add_comm (c (pos 4)) (P.mul (c (pos 6)) a),
    )

apart : ab_b ≡ just_b → ⊥
apart e = let z : ◌≡◌ {A = ℕ} 0 1 = cc in omega arith

distinct : Distinct (ab_b ∷ just_b ∷ [])
distinct = (λ m. elim m [ inl e ↦ apart e | inr n ↦ n ], (λ n. n, tt))

inside : (s : Tree ℤ) → Among s (ab_b ∷ just_b ∷ []) → Inside s ab_b
inside s (inl e) = inl e
inside s (inr (inl e)) = inr (inl (inl e))
inside s (inr (inr n)) = absurd n

among_b : (s : Tree ℤ) → Inside s just_b → Among s (ab_b ∷ just_b ∷ [])
among_b s (inl e) = inr (inl e)
among_b s (inr (inl n)) = absurd n
among_b s (inr (inr n)) = absurd n

among : (s : Tree ℤ) → Inside s ab_b → Among s (ab_b ∷ just_b ∷ [])
among s (inl e) = inl e
among s (inr (inl i)) = among_b s i
among s (inr (inr i)) = among_b s i

-- a = 0 + a·1 leads b
leads : Leads integer_ring 2 0 a P.zero P.one b
leads =
    let L = ring_laws integers integers_sound 2 in
    record {
      splits = record {
        known = omega arith;
        means = sym (L.add-zero (P.mul a P.one) ∙ L.mul-one a);
        low = λ y h. down-zero integer_laws 2 y;
        high = λ y h. absurd (omega arith);
      };
      has = λ e. differ 1 0 (λ z. omega arith) (ap (λ (f : Polynomial ℤ 2). coefficient integer_ring 2 f []) e);
      later = λ y h. absurd (omega arith);
      varies = λ z. differ 1 0 (λ z. omega arith) (ap (λ (f : Polynomial ℤ 2). coefficient integer_ring 2 f []) (z 1));
    }

pub samples : Examples
samples = record {
  product_coefficient = refl;
  mass_is = refl;
  entry_mass = refl;
  reduced = reduced;
  lawful = lawful;
  stands_for = stands_for;
  degree_is = (degree_laws integers integers_sound 2).reference three_a_two reduced (pos 2) (differ 2 0 (λ e. omega arith));
  diagram = record { distinct = distinct; inside = inside; all = among };
  working_times = times 0 a P.zero P.one b leads refl;
  working_whole = whole 0 a P.zero P.one b leads refl;
  rival = record {
    placed = (
      record { known = omega arith; lo_before = omega arith; hi_before = omega arith; after = omega arith; from = omega arith },
      (record { known = omega arith; lo_before = omega arith; hi_before = omega arith; after = omega arith; from = omega arith }, tt),
    );
    c = pos 1;
    r = 1;
    known = omega arith;
    means = refl;
  };
  grown = record { within = record { new = entry_b ∷ []; appended = refl; distinct = (λ n. n, tt); only = λ t m. inr m }; all = λ t m. m };
  overfull = record { missing = ab_b ∷ just_b ∷ []; lacks = record { distinct = distinct; wanted = λ t m. m; absent = λ t m n. n }; exceeds = omega arith };
}
