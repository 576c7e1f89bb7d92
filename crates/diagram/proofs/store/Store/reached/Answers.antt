use Rattle.std.proofs.Common.{◌≡◌, Bool, take, drop, ◌∙◌, rules, arith}
use Rattle.std.specs.List.{count_by}
use Rattle.diagram.proofs.Marking.{counted, count_marked}
use Rattle.diagram.proofs.store.Store.reached.Goals as goal

pub returns : goal.returns
returns c =
    let ms = c.marks-marks.result in
    let n = c.args.n in
    let e : c.count.result ≡ count_by (λ (b : Bool). b) (take n (drop 1 ms)) = search rules in
    counted ms _ n c.requires c.args.self.now.falling c.marks-marks.ensures c.count.result (e ∙ count_marked ms n (omega (arith, c.requires, c.marks-marks.ensures.long, c.args.self.now.few, c.args.self.now.small, c.args.self.now.entries.ok.0)))
