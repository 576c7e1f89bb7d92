use Rattle.std.proofs.Common.{◌≡◌, ◌+◌, ◌*◌, ◌/◌, ◌<◌, false, cond, ltb, [], length, get_or, take, drop, Err, sym, ap, ◌∙◌, arith}
use Rattle.std.proofs.lemmas.Bool.Decides.{nat_tests}
use Rattle.std.proofs.lemmas.Grind.{common_steps}
use Rattle.std.specs.Simd.{first_chunks}
use Rattle.domain.specs.declared.fault.Fault.TheVariants.{BadLength}
use Rattle.formula.specs.Flow.{decoded}
use Rattle.formula.specs.Limits.{record_size}
use Rattle.listing.proofs.Chunks.{chunk_at}
use Rattle.listing.proofs.record_at.Goals as goal

pub returns : goal.returns
returns c =
    let flow = c.args.flow.now in
    let place = c.args.place in
    let bytes = c.in_ok-bytes.bytes.now in
    let chunk : bytes ≡ get_or c.as_chunks.result.0.now place [] = grind (arith, common_steps) in
    let inside : place < length flow / record_size = grind (arith, common_steps) in
    let front : c.as_chunks.result.0.now ≡ first_chunks record_size (length flow / record_size) flow = assumption (c.as_chunks.ensures) in
    let here : bytes ≡ take record_size (drop (record_size * place) flow) = chunk ∙ ap (λ l. get_or l place []) front ∙ chunk_at record_size (length flow / record_size) place flow [] inside in
    let test : ltb (length flow) (record_size * place + record_size) ≡ false = grind (arith, nat_tests) in
    c.decode.ensures.value ∙ ap (decoded place) here ∙ sym (ap (λ b. cond b (Err (BadLength (length flow))) (decoded place (take record_size (drop (record_size * place) flow)))) test)
