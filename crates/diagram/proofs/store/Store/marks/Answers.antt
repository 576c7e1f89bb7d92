use Rattle.std.proofs.Common.{◌≡◌, suc, ◌+◌, ◌-◌, subst, arith}
use Rattle.diagram.specs.Counting.{Mark, Marking}
use Rattle.diagram.specs.Stores.{items}
use Rattle.diagram.proofs.Marking.{marking_start, marking_on}
use Rattle.diagram.proofs.store.Store.marks.Goals as goal

pub loop-i-init : goal.loop-i-init
loop-i-init c = (omega arith, marking_start _ c.args.n (omega (arith, c.requires, c.args.self.now.few, c.args.self.now.small, c.args.self.now.entries.ok.0)))

pub loop-i-preserved-then-marks-i : goal.loop-i-preserved-then-marks-i
loop-i-preserved-then-marks-i c =
    let up : c.loop-i.i - 1 + 1 ≡ suc (c.loop-i.i - 1) = omega arith in
    let back : c.loop-i.i ≡ suc (c.loop-i.i - 1) = omega (arith, c.loop-i-test.true) in (
      omega (arith, c.loop-i.invariant.0),
      marking_on _ _ (c.loop-i.i - 1) c.loop-i.marks c.index-e.result.now c.args.self.now.falling (omega (arith, c.args.self.now.few, c.args.self.now.small, c.args.self.now.entries.ok.0))
          (omega (arith, c.loop-i-test.true, c.loop-i.invariant.0, c.requires)) c.index-e.ensures (subst (Mark c.loop-i.marks) up c.if-marks-i.true) (subst (λ i. Marking (items c.args.self.now) c.args.n i c.loop-i.marks) back c.loop-i.invariant.1),
    )
