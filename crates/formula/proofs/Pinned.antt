-- The reader's contract leaves one answer.
use Rattle.std.proofs.Common.{◌≡◌, ℕ, ◌+◌, ◌*◌, ◌<◌, ◌≤◌, List, ◌++◌, length, take, drop, Ok, Err, sym, refl, ap, ◌∙◌, subst, inl, inr, append_assoc, arith, take-append-drop}
use Rattle.domain.specs.declared.fault.Fault.{Fault}
use Rattle.domain.specs.declared.fault.Fault.TheVariants.{BadOrder, BadCapacity, UnknownLetter, NoCode, Unlawful, OverLimit, OverDegree, Full, BadLength, Malformed, NoFormula, NoRoom, BadExponents, BadInput, Memory}
use Rattle.formula.specs.Answer.{Starts, Broken, Overflows, Written, Refused}
use Rattle.formula.specs.Flow.{flow_bytes}
use Rattle.formula.specs.Formulas.{Formula}
use Rattle.formula.specs.Grammar.{Spells}
use Rattle.formula.specs.Limits.{max_text, record_size}
use Rattle.formula.specs.Records.{records}
use Rattle.formula.specs.Theorems.{AnsweredOnce}
use Rattle.formula.proofs.Places.{once}
use Rattle.std.proofs.lemmas.List.{take-take}

-- a beginning of what starts a formula starts it too
starts_shorter : (text : List ℕ) (p q : ℕ) → p < q → Starts (take q text) → Starts (take (p + 1) text)
starts_shorter text p q h (t, f, x) =
    let front : List ℕ = take (p + 1) text in
    let back : List ℕ = drop (p + 1) (take q text) in
    let cut : front ++ back ≡ take q text = ap (λ l. l ++ back) (sym (take-take (p + 1) q text (omega arith))) ∙ take-append-drop (p + 1) (take q text) in
    (back ++ t, f, subst (Spells f) (ap (λ l. l ++ t) (sym cut) ∙ append_assoc front back t) x)

not_below : (text : List ℕ) (p q : ℕ) → Broken text p → Broken text q → p < q → ⊥
not_below text p q a b h = a.stops (omega (arith, b.within)) (starts_shorter text p q h b.starts)

same_place : (text : List ℕ) (p q : ℕ) → Broken text p → Broken text q → p ≡ q
same_place text p q a b =
    let low : p < q → ⊥ = not_below text p q a b in
    let high : q < p → ⊥ = not_below text q p b a in
    omega arith

-- why a fault is answered
data Cause (text buffer : List ℕ) : Fault → Type 0 where
  too_long : max_text < length text → Cause text buffer (BadLength (length text))
  breaks : (place : ℕ) → length text ≤ max_text → Broken text place → Cause text buffer (NoFormula place)
  overflows : length text ≤ max_text → (f : Formula) → Overflows text buffer f → Cause text buffer (NoRoom (length buffer))

cause : (text buffer : List ℕ) (e : Fault) → Refused text buffer e → Cause text buffer e
cause text buffer (BadLength bytes) h = subst (λ n. Cause text buffer (BadLength n)) (sym h.0) (too_long h.1)
cause text buffer (NoFormula place) h = breaks place h.0 h.1
cause text buffer (NoRoom room) (is, short, (f, o)) = subst (λ n. Cause text buffer (NoRoom n)) (sym is) (overflows short f o)
cause text buffer (BadOrder letters) h = absurd h
cause text buffer (BadCapacity asked) h = absurd h
cause text buffer (UnknownLetter letter) h = absurd h
cause text buffer (NoCode number) h = absurd h
cause text buffer (Unlawful entry) h = absurd h
cause text buffer (OverLimit limit) h = absurd h
cause text buffer (OverDegree degree) h = absurd h
cause text buffer (Full capacity) h = absurd h
cause text buffer Malformed h = absurd h
cause text buffer (BadExponents given) h = absurd h
cause text buffer BadInput h = absurd h
cause text buffer Memory h = absurd h

same_cause : {text buffer : List ℕ} {e e' : Fault} → Cause text buffer e → Cause text buffer e' → e ≡ e'
same_cause (too_long h) (too_long k) = refl
same_cause (too_long h) (breaks q k b) = absurd (omega arith)
same_cause (too_long h) (overflows k g o) = absurd (omega arith)
same_cause (breaks p h a) (too_long k) = absurd (omega arith)
same_cause {text} (breaks p h a) (breaks q k b) = ap NoFormula (same_place text p q a b)
same_cause (breaks p h a) (overflows k g o) = absurd (a.no_formula g o.spelled)
same_cause (overflows h f o) (too_long k) = absurd (omega arith)
same_cause (overflows h f o) (breaks q k b) = absurd (b.no_formula f o.spelled)
same_cause (overflows h f o) (overflows k g p) = refl

-- an answer and a refusal exclude each other
excluded : {text buffer after : List ℕ} {n : ℕ} {f : Formula} {e : Fault} → length text ≤ max_text → Written text buffer after n f → Cause text buffer e → ⊥
excluded short w (too_long h) = omega arith
excluded {f = f} short w (breaks p h b) = b.no_formula f w.spelled
excluded {text} {buffer} {n = n} {f = f} short w (overflows h g o) =
    let size : length (records g) ≡ n = ap (λ x. length (records x)) (once g f text o.spelled w.spelled) ∙ sym w.count in
    elim o.over [ inl a ↦ omega (arith, w.fits) | inr a ↦ omega (arith, w.room, size) ]

pub pinned : AnsweredOnce
pinned text buffer after after' (Ok n) (Ok m) (short, (f, w)) (short', (g, v)) =
    let same : f ≡ g = once f g text w.spelled v.spelled in
    let count : n ≡ m = w.count ∙ ap (λ h. length (records h)) same ∙ sym v.count in
    (ap Ok count, w.bytes ∙ (λ i. flow_bytes (records (same i)) ++ drop (record_size * count i) buffer) ∙ sym v.bytes)
pinned text buffer after after' (Ok n) (Err e) (short, (f, w)) (kept, h) = absurd (excluded short w (cause text buffer e h))
pinned text buffer after after' (Err e) (Ok n) (kept, h) (short, (f, w)) = absurd (excluded short w (cause text buffer e h))
pinned text buffer after after' (Err e) (Err e') (kept, h) (kept', h') = (ap Err (same_cause (cause text buffer e h) (cause text buffer e' h')), kept ∙ sym kept')
