-- The body words of a window, one after the other: what holds once the first of them are read.
use Rattle.std.proofs.Common.{◌≡◌, ℕ, ◌+◌, ◌-◌, ◌*◌, ◌<◌, ◌≤◌, List, [], ◌∷◌, ◌++◌, map, length, take, drop, Ok, Err, Result, sym, refl, ap, ◌∙◌, subst, ap₂, append_assoc, append-nil, arith}
use Rattle.std.specs.List.{range_with_len}
use Rattle.std.proofs.lemmas.List.{length-append, take_at, drop_at, drop-drop, drop_all, drop_more, take-append-drop}
use Rattle.std.proofs.lemmas.List.FromFn.{map-range_with_len_more, length-map-range_with_len, get_or-map-range_with_len, take-map-range_with_len}
use Rattle.mending.specs.Menders.{Rule}
use Rattle.format.specs.declared.mode.Mode.{Mode}
use Rattle.format.specs.Payload.{word_count}
use Rattle.format.specs.Reading.{word_read}
use Rattle.words.specs.declared.fault.WordFault.{WordFault}
use Rattle.faults.specs.declared.fault.PayloadFault.{PayloadFault}
use Rattle.faults.specs.declared.fault.PayloadFault.TheVariants.{Word as payload_word}
use Rattle.account.specs.Asks.{Asked, Chain, One, Unmended, Words}
use Rattle.account.specs.Reads.{messages_of, words_read}
use Rattle.account.specs.Answers.{word_answer, Put, WordAs, BodyAs}
use Rattle.account.proofs.OneWord.{mended_one}
use Rattle.account.proofs.WordRuns.{chain_append, words_append, words_behind, words_few, messages_long}

-- a body word's count, from its answer
ok_count : (place n : ℕ) (c : Result ℕ WordFault) → Ok n ≡ word_answer place c → c ≡ Ok n
ok_count place n (Ok k) e = cc
ok_count place n (Err f) e = cc

err_count : (place : ℕ) (f : PayloadFault) (c : Result ℕ WordFault) → Err f ≡ word_answer place c → (e : WordFault) × (c ≡ Err e) × (f ≡ payload_word place e)
err_count place f (Ok k) e = absurd (cc)
err_count place f (Err g) e = (g, refl, cc)

pub messages_append : (vs us : List (List ℕ)) → messages_of (vs ++ us) ≡ messages_of vs ++ messages_of us
messages_append [] us = refl
messages_append (v ∷ vs) us = ap (λ l. take (length v - 16) v ++ l) (messages_append vs us) ∙ sym (append_assoc (take (length v - 16) v) (messages_of vs) (messages_of us))

-- one message more behind those that stand in front of a buffer
put_behind : (front end message : List ℕ) (a : ℕ) → length front ≡ a
    → take a (front ++ drop (length front) end) ++ (message ++ drop (a + length message) (front ++ drop (length front) end)) ≡ (front ++ message) ++ drop (length (front ++ message)) end
put_behind front end message a e =
    let n = length message in
    let back = drop (length front) end in
    ap₂ (λ x y. x ++ (message ++ y)) (take_at front back a e) (sym (drop-drop n a (front ++ back)) ∙ ap (drop n) (drop_at front back a e) ∙ drop-drop n (length front) end)
    ∙ sym (append_assoc front message (drop (length front + n) end))
    ∙ ap (λ k. (front ++ message) ++ drop k end) (sym (length-append front message))

-- the first k body words are mended, and their messages stand in front of the buffer
pub record SoFar {M : Type 0} (rule : Rule M) (s : M) (m : Mode) (L : ℕ) (w : List ℕ) (k total : ℕ) (body after : List ℕ) (t : M) : Type 0 where
  pub asks : List Asked
  pub chain : Chain rule s asks t
  pub words : List (List ℕ)
  pub all : Words 1 (map (word_read m L w) (range_with_len 0 k)) asks (Ok total) words []
  pub filled : after ≡ messages_of words ++ drop (length (messages_of words)) body

-- word k of the n that there are
split_words : {X : Type 0} (f : ℕ → X) (n k : ℕ) → k < n → (rest : List X) × (map f (range_with_len 0 n) ≡ map f (range_with_len 0 k) ++ (f k ∷ rest))
split_words f n k h =
    let xs = map f (range_with_len 0 n) in
    let here = get_or-map-range_with_len f 0 n k k (f 0) h (omega arith) in (
      drop (k + 1) xs,
      sym (take-append-drop k xs)
          ∙ ap₂ ◌++◌ (take-map-range_with_len f 0 n k (omega arith)) (drop_more xs k (f 0) (omega (arith, length-map-range_with_len f 0 n)) ∙ ap (λ x. x ∷ drop (k + 1) xs) here),
    )

module _ {M : Type 0} (rule : Rule M) (s : M) (m : Mode) (L : ℕ) (w body : List ℕ) where
  pub few : (k total : ℕ) (after : List ℕ) (t : M) → SoFar rule s m L w k total body after t → total ≤ 8 * k
  few k total after t so =
      let words = map (word_read m L w) (range_with_len 0 k) in
      omega (arith, words_few 1 words so.asks total so.words [] so.all, length-map-range_with_len (word_read m L w) 0 k)

  -- before the last word every message is full
  full : (k total : ℕ) (after : List ℕ) (t : M) (so : SoFar rule s m L w k total body after t) → k < word_count L → length (messages_of so.words) ≡ 224 * k
  full k total after t so h = messages_long m L w k so.asks total so.words [] so.all ∙ omega arith

  module _ (k total : ℕ) (then after : List ℕ) (t u : M) (h : k < word_count L) (so : SoFar rule s m L w k total body then t) where
    -- one word more is mended
    pub more : (n : ℕ) → WordAs rule t (word_read m L w k) k (Ok n) then after u → SoFar rule s m L w (k + 1) (total + n) body after u
    more n word =
        let v = word.word in
        let message = take (length v - 16) v in
        let before = map (word_read m L w) (range_with_len 0 k) in
        let mended = ok_count (k + 1) n word.count word.answers in
        let one = mended_one rule t u (word_read m L w k) v word.count word.mended in
        let asks = so.asks ++ one.0 in
        let put = subst (λ c. Put c (224 * k) message then after) mended word.put in
        let here : Words (1 + length before) (word_read m L w k ∷ []) one.0 (Ok n) (v ∷ []) [] =
        (Ok n, v, [], subst (λ c. One (word_read m L w k) one.0 c v []) mended one.2, (Ok 0, [], (refl, refl, refl), ap Ok (omega arith), refl)) in
        let all = words_append 1 before (word_read m L w k ∷ []) asks one.0 [] total (Ok n) so.words (v ∷ []) (words_behind 1 before so.asks total so.words [] one.0 so.all) here in
        record {
          asks = asks;
          chain = chain_append rule s t u so.asks one.0 so.chain one.1;
          words = so.words ++ (v ∷ []);
          all = subst (λ ws. Words 1 ws asks (Ok (total + n)) (so.words ++ (v ∷ [])) []) (sym (map-range_with_len_more (word_read m L w) 0 k k (omega arith))) all;
          filled =
              put ∙ ap (λ l. take (224 * k) l ++ (message ++ drop (224 * k + length message) l)) so.filled
              ∙ put_behind (messages_of so.words) body message (224 * k) (full k total then t so h)
              ∙ ap (λ l. l ++ drop (length l) body) (sym (messages_append so.words (v ∷ []) ∙ ap (λ l. messages_of so.words ++ l) (append-nil message)));
        }

    -- the next word is not mended: the words behind it are not read
    pub stops : (f : PayloadFault) → WordAs rule t (word_read m L w k) k (Err f) then after u → BodyAs rule s (words_read m L w) (Err f) after u
    stops f word =
        let v = word.word in
        let before = map (word_read m L w) (range_with_len 0 k) in
        let split = split_words (word_read m L w) (word_count L) k h in
        let cause = err_count (k + 1) f word.count word.answers in
        let one = mended_one rule t u (word_read m L w k) v word.count word.mended in
        let asks = so.asks ++ one.0 in
        let at : 1 + length before ≡ k + 1 = omega (arith, length-map-range_with_len (word_read m L w) 0 k) in
        let fault : Result ℕ Unmended = Err (record { place = k + 1; cause = cause.0 }) in
        let here : Words (1 + length before) (word_read m L w k ∷ split.0) one.0 fault [] [] =
        (Err cause.0, v, [], subst (λ c. One (word_read m L w k) one.0 c v []) cause.1 one.2, (ap (λ p. Err (record { place = p; cause = cause.0 })) (sym at), refl, refl)) in
        let all = words_append 1 before (word_read m L w k ∷ split.0) asks one.0 [] total fault so.words [] (words_behind 1 before so.asks total so.words [] one.0 so.all) here in
        record {
          asks = asks;
          chain = chain_append rule s t u so.asks one.0 so.chain one.1;
          count = fault;
          words = so.words ++ [];
          all = subst (λ ws. Words 1 ws asks fault (so.words ++ []) []) (sym split.1) all;
          answers = ap Err cause.2;
          filled = tt;
        }

  -- all are mended
  pub done : (k total : ℕ) (after : List ℕ) (t : M) → k ≡ word_count L → length body ≡ L → SoFar rule s m L w k total body after t
      → BodyAs rule s (words_read m L w) (Ok total) after t
  done k total after t e long so =
      let front = messages_of so.words in
      let all : length front ≡ L = messages_long m L w k so.asks total so.words [] so.all ∙ omega arith in
      record {
        asks = so.asks;
        chain = so.chain;
        count = Ok total;
        words = so.words;
        all = subst (λ c. Words 1 (map (word_read m L w) (range_with_len 0 c)) so.asks (Ok total) so.words []) e so.all;
        answers = refl;
        filled = so.filled ∙ ap (λ l. front ++ l) (drop_all (length front) body (omega arith)) ∙ append-nil front;
      }
