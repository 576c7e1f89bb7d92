-- The bytes of a flow, record by record.
use Rattle.std.proofs.Common.{◌≡◌, ℕ, ◌+◌, ◌-◌, ◌*◌, ◌<◌, List, [], ◌∷◌, ◌++◌, length, get_or, take, drop, sym, refl, ap, ◌∙◌, append_assoc, append-nil, arith, length-append, length-take-le}
use borrow.Rule.Slice.PartMut.{put_mid}
use Rattle.std.proofs.lemmas.List.{take_more, take_at, drop_at, drop-drop}
use Rattle.formula.specs.Limits.{record_size}
use Rattle.formula.specs.declared.record.Record.{Record}
use Rattle.formula.specs.Flow.{encoded, flow_bytes}

flow_append : (rs : List Record) (r : Record) → flow_bytes (rs ++ r ∷ []) ≡ flow_bytes rs ++ encoded r
flow_append [] r = append-nil (encoded r)
flow_append (x ∷ rs) r = ap (λ l. encoded x ++ l) (flow_append rs r) ∙ sym (append_assoc (encoded x) (flow_bytes rs) (encoded r))

pub flow_length : (rs : List Record) → length (flow_bytes rs) ≡ record_size * length rs
flow_length [] = refl
flow_length (r ∷ rs) = length-append (encoded r) (flow_bytes rs) ∙ (omega (arith, flow_length rs))

-- one more record over a buffer that begins with those before it
pub one_more : (rs : List Record) (was now ys : List ℕ) (i : ℕ) (d : Record) → i < length rs → now ≡ flow_bytes (take i rs) ++ drop (record_size * i) was → ys ≡ encoded (get_or rs i d) → put_mid (record_size * i) (record_size * i + record_size - record_size * i) now ys ≡ flow_bytes (take (i + 1) rs) ++ drop (record_size * (i + 1)) was
one_more rs was now ys i d h before is =
    let front : List ℕ = flow_bytes (take i rs) in
    let back : List ℕ = drop (record_size * i) was in
    let long : length front ≡ record_size * i = flow_length (take i rs) ∙ ap (λ n. record_size * n) (length-take-le i rs (omega arith)) in
    let at : record_size * i + (record_size * i + record_size - record_size * i) ≡ record_size * (i + 1) = omega arith in
    ap (λ l. put_mid (record_size * i) (record_size * i + record_size - record_size * i) l ys) before
    ∙ ap (λ l. l ++ (ys ++ drop (record_size * i + record_size - record_size * i) (drop (record_size * i) (front ++ back)))) (take_at front back (record_size * i) long)
    ∙ ap (λ l. front ++ (ys ++ drop (record_size * i + record_size - record_size * i) l)) (drop_at front back (record_size * i) long)
    ∙ ap (λ l. front ++ (ys ++ l)) (drop-drop (record_size * i + record_size - record_size * i) (record_size * i) was)
    ∙ ap (λ n. front ++ (ys ++ drop n was)) at
    ∙ ap (λ y. front ++ (y ++ drop (record_size * (i + 1)) was)) is
    ∙ sym (append_assoc front (encoded (get_or rs i d)) (drop (record_size * (i + 1)) was))
    ∙ ap (λ l. l ++ drop (record_size * (i + 1)) was) (sym (flow_append (take i rs) (get_or rs i d)) ∙ ap flow_bytes (sym (take_more rs i d h)))
