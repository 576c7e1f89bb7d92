-- A letter alone.
use Rattle.std.proofs.Common.{◌≡◌, ℕ, zero, suc, ◌*◌, ◌<◌, ◌≤◌, ◌⊎◌, ◌↔◌, List, length, get_or, pos, Ok, Err, Result, sym, refl, ap, ◌∙◌, subst, ap₂, inl, inr, zero-mul as zero-mul-ℕ, arith, MatchResult}
use Rattle.domain.specs.Model.{Model, Sound}
use Rattle.domain.specs.Numbers.{number}
use Rattle.domain.specs.declared.fault.Fault.{Fault}
use Rattle.polynomial.specs.Diagrams.{Inside, InDiagram}
use Rattle.polynomial.specs.Polynomials.{Polynomial, Poly, cons, constant, letter}
use Rattle.polynomial.specs.Trees.{Tree, leaf, node, tree_mass, value}
use Rattle.polynomial.proofs.Down.{constant-zero}
use Rattle.polynomial.proofs.ElementFacts.{size_zero}
use Rattle.polynomial.proofs.GrowthLaws.{grown_same, overfull_more}
use Rattle.polynomial.proofs.Rings.{zero-add, zero-mul}
use Rattle.polynomial.proofs.Theorems.{ring_laws, diagram_laws}
use Rattle.diagram.specs.Letters.{Lettered, NoLetter}
use Rattle.diagram.specs.Nodes.{Moved, Joins, joint, Wanted, Joined, Granted, Denied}
use Rattle.diagram.specs.Tables.{nodes, LawfulIn, Kept, Stays}
use Rattle.diagram.specs.declared.entry.Entry.{Entry}
use Rattle.diagram.specs.declared.entry.Reference.{Reference}
use Rattle.diagram.proofs.Joining.{mk, joint_node, F}
use Rattle.diagram.proofs.LawfulLaws.{zero_lawful}
use Rattle.diagram.proofs.Negating.{constant-stands}
use Rattle.diagram.proofs.Numbering.{stays}

abbrev pub nothing : Reference
nothing = record { weight = number (pos 0); entry = 0 }

abbrev pub single : Reference
single = record { weight = number (pos 1); entry = 0 }

pub stays_moved : {E : Type 0} (M : Model E) (k : ℕ) (es fs : List Entry) → Moved es fs → Stays M k es fs
stays_moved M k es fs m = subst (Stays M k es) (sym m.is) (stays M k es m.more)

constant-one : {E : Type 0} (M : Model E) (k : ℕ) → constant M.ring k M.ring.one ≡ (Poly M.ring k).one
constant-one M zero = refl
constant-one M (suc k) = ap (λ z. cons z (λ n. (Poly M.ring k).zero)) (constant-one M k)

module _ {E : Type 0} (M : Model E) (S : Sound M) (k : ℕ) (es : List Entry) (K : Kept M k es) (x : ℕ) (known : x < k) where
  left : LawfulIn M es nothing
  left = zero_lawful M S es nothing refl refl

  right : LawfulIn M es single
  right = (constant-stands M S k es (number (pos 1)) (number (pos 1)) refl S.codes.one.0).1.lawful

  pub joins : Joins M k es x nothing single
  joins = record {
    kept = K;
    left = left;
    right = right;
    known = known;
    after = tt;
    from = tt;
    light = omega (arith, right.lawful.light, ap (λ n. n * tree_mass M leaf) (ap M.size S.codes.zero.1 ∙ size_zero S) ∙ zero-mul-ℕ (tree_mass M leaf));
  }

  abbrev P : Polynomial E k
  P = letter M.ring k x

  abbrev w : E
  w = (joint M es x nothing single).0

  abbrev t : Tree E
  t = (joint M es x nothing single).1

  means : value M.ring k w t ≡ P
  means =
      let R = M.ring in
      let L = ring_laws M S k in
      let a : value R k (M.value (number (pos 0))) leaf ≡ (Poly R k).zero =
      ap (λ z. (Poly R k).mul (constant R k z) (Poly R k).one) S.codes.zero.1 ∙ (ap (λ z. (Poly R k).mul z (Poly R k).one) (constant-zero R k) ∙ zero-mul L (Poly R k).one) in
      let b : value R k (M.value (number (pos 1))) leaf ≡ (Poly R k).one =
      ap (λ z. (Poly R k).mul (constant R k z) (Poly R k).one) S.codes.one.1 ∙ (ap (λ z. (Poly R k).mul z (Poly R k).one) (constant-one M k) ∙ L.mul-one (Poly R k).one) in
      (mk M S k es x nothing single joins).means
      ∙ (ap₂ (λ y z. (Poly R k).add y ((Poly R k).mul P z)) a b ∙ (zero-add L ((Poly R k).mul P (Poly R k).one) ∙ L.mul-one P))

  reached : (s : Tree E) → InDiagram M k P s ↔ Inside s t
  reached s =
      subst (λ h. InDiagram M k h s ↔ Inside s t) means
      ((diagram_laws M S k).reached t (mk M S k es x nothing single joins).reduced w (mk M S k es x nothing single joins).lawful s)

  abbrev whole : Tree E
  whole = node x (F M S k es x nothing single joins refl).1 leaf (F M S k es x nothing single joins refl).2 leaf

  is_whole : t ≡ whole
  is_whole = joint_node M S k es x nothing single joins refl

  of_wanted : (s : Tree E) → Wanted M es x nothing single s → InDiagram M k P s
  of_wanted s h = (reached s).1 (subst (Inside s) (sym is_whole) (inl (h.1 ∙ is_whole)))

  to_wanted : (s : Tree E) → InDiagram M k P s → Wanted M es x nothing single s
  to_wanted s d = go (subst (Inside s) is_whole ((reached s).0 d))
    where
      go : (s ≡ whole) ⊎ (⊥ ⊎ ⊥) → Wanted M es x nothing single s
      go (inl q) = (λ z. let y : ◌≡◌ {A = ℕ} 0 1 = cc in omega arith, q ∙ sym is_whole)
      go (inr (inl q)) = absurd q
      go (inr (inr q)) = absurd q

  granted : (cap : ℕ) (fs : List Entry) (r : Reference) → Moved es fs → Joined M k cap es fs x nothing single r → Granted M k cap es fs (InDiagram M k P) P r
  granted cap fs r m J = record {
    kept = J.kept;
    stands = record { lawful = J.lawful; is = ap₂ (value M.ring k) J.weight_is J.tree_is ∙ means };
    grown = grown_same (nodes M es) (nodes M fs) (Wanted M es x nothing single) (InDiagram M k P) of_wanted to_wanted J.grown;
    room = J.room;
    stays = stays_moved M k es fs m;
  }

  denied : (cap : ℕ) (e : Fault) → Denied M cap es (Wanted M es x nothing single) e → Denied M cap es (InDiagram M k P) e
  denied cap e D = record { full = D.full; overfull = overfull_more (nodes M es) cap (Wanted M es x nothing single) (InDiagram M k P) of_wanted D.overfull }

  -- how the call ends
  pub lettered : (cap : ℕ) (ls : List ℕ) (fs : List Entry) (byte : ℕ) (Same : Type 0) → x < length ls → get_or ls x 0 ≡ byte → (r : Result Reference Fault)
      → MatchResult r (λ v. Moved es fs × (v.entry ≤ length fs)) (λ _. Same)
      → MatchResult r (Joined M k cap es fs x nothing single) (Denied M cap es (Wanted M es x nothing single))
      → MatchResult r (Lettered M k cap ls es fs byte) (NoLetter M k ls es cap byte)
  lettered cap ls fs byte Same here names (Ok v) m J = record { place = x; known = known; names = names; granted = granted cap fs v m.0 J }
  lettered cap ls fs byte Same here names (Err e) m D = inr ((x, here, names), record { place = x; known = known; names = names; denied = denied cap e D })
