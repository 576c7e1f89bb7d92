use Rattle.std.proofs.Common.{◌≡◌, ◌*◌, ◌<◌, ◌⊎◌, ◌++◌, length, drop, Some, None, Err, sym, refl, ap, ◌∙◌, subst, inl, inr, arith}
use Rattle.std.proofs.lemmas.Grind.{common_steps}
use Rattle.domain.specs.declared.fault.Fault.TheVariants.{NoFormula}
use Rattle.formula.specs.Answer.{Answer}
use Rattle.formula.specs.Flow.{flow_bytes}
use Rattle.formula.specs.Limits.{max_records, record_size}
use Rattle.formula.specs.Records.{records}
use Rattle.formula.proofs.Reading.{goes_on, breaks, stepped, ended, unfinished, finished, long, copied}
use Rattle.formula.proofs.text.read.Goals as goal
use Rattle.formula.proofs.text.read.Goals.{then-count-gt-MAX_RECORDS-via-then-count-gt-MAX_RECORDS, then-count-gt-MAX_RECORDS-via-else-count-gt-MAX_RECORDS+then-count-room}

pub returns-in_err-ok_or : goal.returns-in_err-ok_or
returns-in_err-ok_or c =
    let text = c.args.text.now in
    let i = c.loop-place.place in
    let r = c.loop-place.invariant in
    let none : c.step.result ≡ None = grind (arith, common_steps) in
    let is : c.from_residual.result ≡ Err (NoFormula i) = grind (arith, common_steps) in
    subst (Answer text c.args.buffer.now c.args.buffer.now) (sym is)
    (refl, (omega arith, breaks text i _ _ r (omega arith) (stepped text i _ _ r _ _ None c.from.ensures none c.step.ensures)))

pub loop-place-preserved : goal.loop-place-preserved
loop-place-preserved c =
    let text = c.args.text.now in
    let i = c.loop-place.place in
    let r = c.loop-place.invariant in
    let some : c.step.result ≡ Some tt = grind (arith, common_steps) in
    goes_on text i _ _ r (omega arith) (stepped text i _ _ r _ _ (Some tt) c.from.ensures some c.step.ensures)

pub returns-in_err-ok_or-2 : goal.returns-in_err-ok_or-2
returns-in_err-ok_or-2 c =
    let text = c.args.text.now in
    let i = c.loop-place.place in
    let r = c.loop-place.invariant in
    let none : c.finish.result ≡ None = grind (arith, common_steps) in
    let is : c.from_residual-in_err-ok_or-2.result ≡ Err (NoFormula (length text)) = grind (arith, common_steps) in
    subst (Answer text c.args.buffer.now c.args.buffer.now) (sym is)
    (refl, (omega arith, unfinished text i _ c.finish.new.self.tape r c.loop-place-test.false (ended text i _ c.finish.new.self r _ None none c.finish.ensures)))

pub returns-then-count-gt-MAX_RECORDS : goal.returns-then-count-gt-MAX_RECORDS
returns-then-count-gt-MAX_RECORDS c =
    let text = c.args.text.now in
    let i = c.loop-place.place in
    let r = c.loop-place.invariant in
    let some : c.finish.result ≡ Some tt = grind (arith, common_steps) in
    let got = finished text i _ c.finish.new.self.tape r c.loop-place-test.false (ended text i _ c.finish.new.self r _ (Some tt) some c.finish.ensures) in
    let n = ap length c.records-records.ensures ∙ long text _ got in
    let way : (max_records < length (records got.formula)) ⊎ (length c.args.buffer.now < record_size * length (records got.formula)) =
    elim c.then-count-gt-MAX_RECORDS.branch [
      | then-count-gt-MAX_RECORDS-via-then-count-gt-MAX_RECORDS w ↦ inl (omega (arith, n, w.if-count-gt-MAX_RECORDS))
      | then-count-gt-MAX_RECORDS-via-else-count-gt-MAX_RECORDS+then-count-room w ↦ inr (omega (arith, n, w.if-count-gt-MAX_RECORDS, w.if-count-room))
    ] in
    (refl, (refl, omega arith, (got.formula, record { spelled = got.spelled; over = way })))

pub returns : goal.returns
returns c =
    let text = c.args.text.now in
    let i = c.loop-place.place in
    let r = c.loop-place.invariant in
    let some : c.finish.result ≡ Some tt = grind (arith, common_steps) in
    let got = finished text i _ c.finish.new.self.tape r c.loop-place-test.false (ended text i _ c.finish.new.self r _ (Some tt) some c.finish.ensures) in
    let all : c.records-records.result.now ≡ records got.formula = c.records-records.ensures ∙ copied text _ got (omega (arith, ap length c.records-records.ensures)) in
    let n = ap length all in (
      omega arith,
      (
        got.formula,
        record {
          spelled = got.spelled;
          count = n;
          fits = omega arith;
          room = omega arith;
          bytes = c.write_records.ensures ∙ (λ j. flow_bytes (all j) ++ drop (record_size * length c.records-records.result.now) c.args.buffer.now);
        },
      ),
    )
