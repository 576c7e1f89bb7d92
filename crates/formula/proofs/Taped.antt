-- One more record on the tape.
use Rattle.std.proofs.Common.{◌≡◌, ℕ, ◌+◌, ◌-◌, ◌<◌, ◌≤◌, List, [], ◌∷◌, ◌++◌, length, sym, ap, ◌∙◌, arith, length-append, length-take, take_all}
use lib.Seq.{take-append-le}
use Rattle.formula.specs.Limits.{max_records}
use Rattle.formula.specs.declared.record.Record.{Record}
use Rattle.formula.specs.declared.tape.Tape.{Tape}
use Rattle.formula.specs.Tapes.{Wrote, last_number}

-- a tape with no room left has the first records of more, too
pub wrote_full : (t : Tape) (e : List Record) (x : Record) → max_records + 1 ≤ length t.records.items → Wrote t e → Wrote t (e ++ x ∷ [])
wrote_full t e x h w =
    let long : max_records + 1 ≤ length e = omega (arith, ap length w.records_are, length-take (max_records + 1) e) in
    record { records_are = w.records_are ∙ sym (take-append-le (max_records + 1) e (x ∷ []) long) }

pub wrote_more : (t : Tape) (u : Tape) (e : List Record) (x : Record) → length t.records.items < max_records + 1 → u.records.items ≡ t.records.items ++ x ∷ [] → Wrote t e → Wrote u (e ++ x ∷ [])
wrote_more t u e x h is w =
    let short : length e < max_records + 1 = omega (arith, ap length w.records_are, length-take (max_records + 1) e) in
    record {
      records_are = is
          ∙ ap (λ l. l ++ x ∷ []) (w.records_are ∙ take_all (max_records + 1) e (omega arith))
          ∙ sym (take_all (max_records + 1) (e ++ x ∷ []) (omega (arith, length-append e (x ∷ []))));
    }

-- what `last` answers
pub last_is : (t : Tape) (e : List Record) (n : ℕ) → n ≡ length t.records.items - 1 → Wrote t e → n ≡ last_number e
last_is t e n is w = omega (arith, ap length w.records_are, length-take (max_records + 1) e)
