-- The payload of a frame that stands in its window, from its body words.
use Rattle.std.proofs.Common.{◌≡◌, ℕ, ◌≤◌, true, leb, List, ◌++◌, length, drop, Ok, Err, Result, sym, refl, subst, arith}
use Rattle.std.proofs.lemmas.Slice.{drop-append-drop}
use Rattle.std.proofs.lemmas.Bool.{le-leb}
use Rattle.mending.specs.Menders.{Rule}
use Rattle.format.specs.declared.mode.Mode.{Mode}
use Rattle.format.specs.Frame.{frame_length}
use Rattle.faults.specs.declared.fault.PayloadFault.{PayloadFault}
use Rattle.faults.specs.declared.fault.PayloadFault.TheVariants.{Word as payload_word}
use Rattle.account.specs.Asks.{Asked, Unmended}
use Rattle.account.specs.Reads.{words_read}
use Rattle.account.specs.Answers.{body_answer, BodyAs, Plain, PayloadBy, PayloadAs}

pub ok_run : (n : ℕ) (c : Result ℕ Unmended) → Ok n ≡ body_answer c → c ≡ Ok n
ok_run n (Ok k) e = cc
ok_run n (Err u) e = let z : ◌≡◌ {A = ℕ} 0 1 = cc in absurd (omega arith)

pub err_run : (f : PayloadFault) (c : Result ℕ Unmended) → Err f ≡ body_answer c → (u : Unmended) × (c ≡ Err u) × (f ≡ payload_word u.place u.cause)
err_run f (Ok k) e = let z : ◌≡◌ {A = ℕ} 0 1 = cc in absurd (omega arith)
err_run f (Err u) e = (u, refl, cc)

module _ {M : Type 0} (rule : Rule M) (s t : M) (m : Mode) (seed L : ℕ) (w body : List ℕ) (whole : frame_length m L ≤ length w) where
  at_whole : (asks : List Asked) (r : Result ℕ PayloadFault) (later : List ℕ) → PayloadBy true m seed L w asks r body later
      → PayloadBy (leb (frame_length m L) (length w)) m seed L w asks r body later
  at_whole asks r later h = subst (λ b. PayloadBy b m seed L w asks r body later) (sym (le-leb (frame_length m L) (length w) whole)) h

  -- a word is not mended: the buffer behind the body is as it was
  pub payload_stops : (f : PayloadFault) (then : List ℕ) → L ≤ 2048 → length then ≡ L → BodyAs rule s (words_read m L w) (Err f) then t
      → PayloadAs rule s m seed L w (Err f) body (then ++ drop L body) t
  payload_stops f then short long b =
      let cause = err_run f b.count b.answers in
      let later = then ++ drop L body in
      let kept : drop 2048 later ≡ drop 2048 body = drop-append-drop L body then 2048 short long in
      record {
        asks = b.asks;
        chain = b.chain;
        account = at_whole b.asks (Err f) later (b.count, b.words, b.all, b.answers, subst (λ c. Plain c seed L b.words body later) (sym cause.1) kept);
      }
