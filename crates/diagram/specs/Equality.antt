-- Equality of numbers, edges, entries and references holds of the same alone: proofs.
use Rattle.std.specs.Prelude.{◌≡◌, ℕ, ◌&&◌, ◌==◌}
use Rattle.std.specs.Bool.{Decides}
use Rattle.std.specs.Ordering.{int_eq}
use Rattle.std.proofs.lemmas.Bool.Decides.{Decides-eqb, Decides-int_eq, Decides-and, Decides-like}
use Rattle.std.proofs.Math.Path.{ap}
use Rattle.domain.specs.declared.number.Number.{Number}
use Rattle.diagram.specs.declared.entry.Edge.{Edge}
use Rattle.diagram.specs.declared.entry.Entry.{Entry}
use Rattle.diagram.specs.declared.entry.Reference.{Reference}

pub decides_byte : (x y : ℕ) → Decides (x == y) (x ≡ y)
decides_byte = Decides-eqb

pub decides_number : (a b : Number) → Decides (int_eq a.int b.int) (a ≡ b)
decides_number a b =
    Decides-like (int_eq a.int b.int) (λ e i. record { int = e i }) (ap (λ (n : Number). n.int)) (Decides-int_eq a.int b.int)

pub decides_edge : (a b : Edge) → Decides (int_eq a.weight.int b.weight.int && (a.target == b.target)) (a ≡ b)
decides_edge a b =
    Decides-like (int_eq a.weight.int b.weight.int && (a.target == b.target)) (λ e i. record { weight = e.0 i; target = e.1 i })
    (λ e. (ap (λ (x : Edge). x.weight) e, ap (λ (x : Edge). x.target) e))
    (Decides-and (int_eq a.weight.int b.weight.int) (a.target == b.target) (decides_number a.weight b.weight) (Decides-eqb a.target b.target))

pub decides_reference : (f g : Reference) → Decides (int_eq f.weight.int g.weight.int && (f.entry == g.entry)) (f ≡ g)
decides_reference f g =
    Decides-like (int_eq f.weight.int g.weight.int && (f.entry == g.entry)) (λ e i. record { weight = e.0 i; entry = e.1 i })
    (λ e. (ap (λ (x : Reference). x.weight) e, ap (λ (x : Reference). x.entry) e))
    (Decides-and (int_eq f.weight.int g.weight.int) (f.entry == g.entry) (decides_number f.weight g.weight) (Decides-eqb f.entry g.entry))

pub decides_entry : (a b : Entry)
    → Decides ((a.letter == b.letter) && ((int_eq a.additive.weight.int b.additive.weight.int && (a.additive.target == b.additive.target)) && (int_eq a.multiplicative.weight.int b.multiplicative.weight.int && (a.multiplicative.target == b.multiplicative.target)))) (a ≡ b)
decides_entry a b =
    let s = int_eq a.additive.weight.int b.additive.weight.int && (a.additive.target == b.additive.target) in
    let t = int_eq a.multiplicative.weight.int b.multiplicative.weight.int && (a.multiplicative.target == b.multiplicative.target) in
    Decides-like ((a.letter == b.letter) && (s && t)) (λ e i. record { letter = e.0 i; additive = e.1.0 i; multiplicative = e.1.1 i })
    (λ e. (ap (λ (x : Entry). x.letter) e, (ap (λ (x : Entry). x.additive) e, ap (λ (x : Entry). x.multiplicative) e)))
    (Decides-and (a.letter == b.letter) (s && t) (Decides-eqb a.letter b.letter) (Decides-and s t (decides_edge a.additive b.additive) (decides_edge a.multiplicative b.multiplicative)))
