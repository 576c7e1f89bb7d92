use Rattle.std.proofs.Common.{◌≡◌, suc, ◌+◌, ◌-◌, [], ◌∷◌, ◌++◌, subst, arith}
use Rattle.formula.specs.declared.record.Record.TheVariants.{Product}
use Rattle.formula.specs.Tapes.{Wrote, powered}
use Rattle.formula.proofs.tape.Tape.raise.Goals as goal

pub loop-preserved : goal.loop-preserved
loop-preserved c = record {
  on_tape = λ e w.
      let before = c.loop.invariant.on_tape e w in
      let next : suc (c.loop.counter - 1) ≡ c.loop.counter + 1 - 1 = omega arith in
      subst (λ n. Wrote c.push.new.self (powered e n)) next
      (subst (Wrote c.push.new.self) (λ i. powered e (c.loop.counter - 1) ++ Product (c.last-product.ensures _ before i) (c.last-base.ensures e w i) ∷ []) (c.push.ensures _ before));
  within = omega arith;
}

pub returns : goal.returns
returns c = λ e w. let all : c.loop.counter - 1 ≡ c.args.k - 1 = omega arith in subst (λ n. Wrote c.loop.self (powered e n)) all (c.loop.invariant.on_tape e w)
