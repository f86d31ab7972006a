use Rattle.std.proofs.Common.{◌≡◌, ℕ, cond, List, length, sym, ap, ◌∙◌, ap₂, arith}
use Rattle.std.specs.Str.{bytes_eq}
use Rattle.std.proofs.lemmas.List.{with_items_is}
use Rattle.buffers.specs.declared.buffers.Buffers.TheVariants.{Untouched, Other}
use Rattle.script.specs.Words.{encode_text}
use Rattle.script.proofs.Verdicts.{not_encoded}
use Rattle.script.proofs.word_calls.encode_message.Goals as goal

pub returns-in-Err : goal.returns-in-Err
returns-in-Err c =
    let m : List ℕ = c.args.message.now in
    let old : List ℕ = c.as_mut_slice.result.now in
    let v : List ℕ = c.encode.new.parity in
    let room : length old ≡ c.args.room = c.as_mut_slice.ensures.len ∙ c.in_ok-parity.ensures.size in
    let long : length v ≡ c.in_ok-parity.parity.after.len = omega (arith, c.encode.auto.parity, c.as_mut_slice.ensures.len) in
    let before : c.looks.result.before.now ≡ old = c.looks.ensures.before ∙ sym c.in_ok-parity.ensures.same ∙ sym c.as_mut_slice.ensures.value in
    let after : c.looks.result.after.now ≡ v = c.looks.ensures.after ∙ with_items_is c.in_ok-parity.parity.after v long in
    let found : c.after_encode-buffers.result ≡ cond (bytes_eq old v) Untouched Other =
    c.after_encode-buffers.ensures ∙ ap₂ (λ (x y : List ℕ). cond (bytes_eq x y) Untouched Other) before after in
    not_encoded m old v c.in-Err.fault c.refusal.result c.after_encode-buffers.result c.in-Err.ensures.answer c.in-Err.ensures.parity c.refusal.ensures found
    ∙ ap (encode_text m) room
