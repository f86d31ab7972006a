-- Words read one behind the other: what was asked about them, and how long and how many octets they come to.
use Rattle.std.proofs.Common.{◌≡◌, ℕ, zero, suc, ◌+◌, ◌-◌, ◌*◌, ◌≤◌, min, Bool, true, false, List, [], ◌∷◌, ◌++◌, map, length, take, Some, None, Ok, Err, Option, Result, sym, refl, ap, ◌∙◌, subst, arith}
use Rattle.std.specs.List.{range_with_len}
use Rattle.std.proofs.lemmas.List.{length-append, length-take-le}
use Rattle.words.specs.declared.change.Change.{Change}
use Rattle.words.specs.declared.fault.WordFault.{WordFault}
use Rattle.words.specs.Coder.{is_codeword}
use Rattle.words.specs.Changes.{fault_of, mended_by}
use Rattle.mending.specs.Menders.{Rule, sound}
use Rattle.mending.specs.Mending.{counted_by, counted, settled}
use Rattle.words.proofs.Scans.{length_changed}
use Rattle.mending.specs.Layers.{passed}
use Rattle.format.specs.declared.mode.Mode.{Mode}
use Rattle.format.specs.Reading.{word_read}
use Rattle.format.proofs.OnlyOne.{length_word_read}
use Rattle.account.specs.Asks.{Asked, Chain, OneBy, One, Unmended, added, After, Words}
use Rattle.account.specs.Reads.{messages_of}

-- ---- what was asked, one list behind the other

pub chain_append : {M : Type 0} (rule : Rule M) (s t u : M) (xs ys : List Asked) → Chain rule s xs t → Chain rule t ys u → Chain rule s (xs ++ ys) u
chain_append rule s t u [] ys p q = subst (λ x. Chain rule x ys u) p q
chain_append rule s t u (a ∷ xs) ys p q = (p.0, p.1, chain_append rule p.0 t u xs ys p.2 q)

one_behind_by : (b : Bool) (w : List ℕ) (asks : List Asked) (r : Result ℕ WordFault) (v : List ℕ) (rest more : List Asked)
    → OneBy b w asks r v rest → OneBy b w (asks ++ more) r v (rest ++ more)
one_behind_by true w asks r v rest more h = (h.0, h.1, ap (λ l. l ++ more) h.2)
one_behind_by false w asks r v rest more h = (h.0, ap (λ l. l ++ more) h.1, h.2, h.3)

-- what is asked later is left over
pub one_behind : (w : List ℕ) (asks : List Asked) (r : Result ℕ WordFault) (v : List ℕ) (rest more : List Asked) → One w asks r v rest → One w (asks ++ more) r v (rest ++ more)
one_behind w asks r v rest more h = one_behind_by (is_codeword w) w asks r v rest more h

-- ---- words, one row behind the other

added_none : (r : Result ℕ Unmended) → r ≡ added 0 r
added_none (Ok n) = ap Ok (omega arith)
added_none (Err u) = refl

added_twice : (a n : ℕ) (r : Result ℕ Unmended) → added a (added n r) ≡ added (a + n) r
added_twice a n (Ok m) = ap Ok (omega arith)
added_twice a n (Err u) = refl

-- a count of words that were all mended, split at the first
split_count : (a n : ℕ) (more : Result ℕ Unmended) → Ok n ≡ added a more → (m : ℕ) × (more ≡ Ok m) × (n ≡ a + m)
split_count a n (Ok m) e = (m, refl, cc)
split_count a n (Err u) e = let z : ◌≡◌ {A = ℕ} 0 1 = cc in absurd (omega arith)

-- what a run of words that were all mended says of the first
pub record First (k : ℕ) (w : List ℕ) (ws : List (List ℕ)) (asks : List Asked) (n : ℕ) (vs : List (List ℕ)) (rest : List Asked) : Type 0 where
  pub count : ℕ
  pub word : List ℕ
  pub mid : List Asked
  pub one : One w asks (Ok count) word mid
  pub others : ℕ
  pub words : List (List ℕ)
  pub run : Words (suc k) ws mid (Ok others) words rest
  pub sum : n ≡ count + others
  pub all : vs ≡ word ∷ words

first_by : (k : ℕ) (w : List ℕ) (ws : List (List ℕ)) (asks : List Asked) (n : ℕ) (vs : List (List ℕ)) (rest : List Asked) (one : Result ℕ WordFault) (v : List ℕ) (mid : List Asked)
    → One w asks one v mid → After (Words (suc k) ws) one k mid (Ok n) v vs rest → First k w ws asks n vs rest
first_by k w ws asks n vs rest (Err e) v mid h a = let f = a.0 in let z : ◌≡◌ {A = ℕ} 0 1 = cc in absurd (omega arith)
first_by k w ws asks n vs rest (Ok c) v mid h a =
    let s = split_count c n a.0 a.3 in
    record {
      count = c;
      word = v;
      mid = mid;
      one = h;
      others = s.0;
      words = a.1;
      run = subst (λ r. Words (suc k) ws mid r a.1 rest) s.1 a.2;
      sum = s.2;
      all = a.4;
    }

pub first : (k : ℕ) (w : List ℕ) (ws : List (List ℕ)) (asks : List Asked) (n : ℕ) (vs : List (List ℕ)) (rest : List Asked) → Words k (w ∷ ws) asks (Ok n) vs rest → First k w ws asks n vs rest
first k w ws asks n vs rest h = first_by k w ws asks n vs rest h.0 h.1 h.2 h.3 h.4

-- words that were all mended, and words behind them
pub words_append : (k : ℕ) (xs ys : List (List ℕ)) (asks mid rest : List Asked) (n : ℕ) (r : Result ℕ Unmended) (vs us : List (List ℕ))
    → Words k xs asks (Ok n) vs mid → Words (k + length xs) ys mid r us rest → Words k (xs ++ ys) asks (added n r) (vs ++ us) rest
words_append k [] ys asks mid rest n r vs us h b =
    let e0 = h.0 in
    let none : n ≡ 0 = cc in
    let at : k + 0 ≡ k = omega arith in
    subst (λ l. Words k ys l (added n r) (vs ++ us) rest) (sym h.2)
    (subst (λ l. Words k ys mid (added n r) (l ++ us) rest) (sym h.1)
    (subst (λ x. Words k ys mid x us rest) (added_none r ∙ ap (λ m. added m r) (sym none)) (subst (λ j. Words j ys mid r us rest) at b)))
words_append k (x ∷ xs) ys asks mid rest n r vs us h b =
    let f = first k x xs asks n vs mid h in
    let at : k + suc (length xs) ≡ suc k + length xs = omega arith in
    let more = words_append (suc k) xs ys f.mid mid rest f.others r f.words us f.run (subst (λ j. Words j ys mid r us rest) at b) in (
      Ok f.count,
      f.word,
      f.mid,
      f.one,
      (added f.others r, f.words ++ us, more, ap (λ m. added m r) f.sum ∙ sym (added_twice f.count f.others r), ap (λ l. l ++ us) f.all),
    )

-- words that were all mended, with more asked behind them
pub words_behind : (k : ℕ) (ws : List (List ℕ)) (asks : List Asked) (n : ℕ) (vs : List (List ℕ)) (rest more : List Asked)
    → Words k ws asks (Ok n) vs rest → Words k ws (asks ++ more) (Ok n) vs (rest ++ more)
words_behind k [] asks n vs rest more h = (h.0, h.1, ap (λ l. l ++ more) h.2)
words_behind k (w ∷ ws) asks n vs rest more h =
    let f = first k w ws asks n vs rest h in (
      Ok f.count,
      f.word,
      f.mid ++ more,
      one_behind w asks (Ok f.count) f.word f.mid more f.one,
      (Ok f.others, f.words, words_behind (suc k) ws f.mid f.others f.words rest more f.run, ap Ok f.sum, f.all),
    )

-- ---- counts: no word has more than eight octets mended

sound_count : (o : Option WordFault) (m n : ℕ) → Ok n ≡ counted_by o m → (sound o ≡ true) × (n ≡ m)
sound_count None m n e = (refl, cc)
sound_count (Some f) m n e = let z : ◌≡◌ {A = ℕ} 0 1 = cc in absurd (omega arith)

counted_few : (w : List ℕ) (a : Option (List Change)) (n : ℕ) → Ok n ≡ counted w a → n ≤ 8
counted_few w None n e = let z : ◌≡◌ {A = ℕ} 0 1 = cc in absurd (omega arith)
counted_few w (Some cs) n e = let s = sound_count (fault_of w cs) (length cs) n e in omega (arith, (passed w cs s.0).few, s.1)

one_few_by : (b : Bool) (w : List ℕ) (asks : List Asked) (n : ℕ) (v : List ℕ) (rest : List Asked) → OneBy b w asks (Ok n) v rest → n ≤ 8
one_few_by true w asks n v rest h = let e = h.0 in let none : n ≡ 0 = cc in omega arith
one_few_by false w asks n v rest h = counted_few w h.0 n h.2

pub one_few : (w : List ℕ) (asks : List Asked) (n : ℕ) (v : List ℕ) (rest : List Asked) → One w asks (Ok n) v rest → n ≤ 8
one_few w asks n v rest h = one_few_by (is_codeword w) w asks n v rest h

pub words_few : (k : ℕ) (ws : List (List ℕ)) (asks : List Asked) (n : ℕ) (vs : List (List ℕ)) (rest : List Asked) → Words k ws asks (Ok n) vs rest → n ≤ 8 * length ws
words_few k [] asks n vs rest h = let e = h.0 in let none : n ≡ 0 = cc in omega arith
words_few k (w ∷ ws) asks n vs rest h =
    let f = first k w ws asks n vs rest h in
    omega (arith, f.sum, one_few w asks f.count f.word f.mid f.one, words_few (suc k) ws f.mid f.others f.words rest f.run)

-- ---- lengths: mending keeps a word's length

mended_long : (o : Option WordFault) (w : List ℕ) (cs : List Change) → length (mended_by o w cs) ≡ length w
mended_long None w cs = length_changed w cs
mended_long (Some e) w cs = refl

settled_long : (w : List ℕ) (a : Option (List Change)) → length (settled w a) ≡ length w
settled_long w None = refl
settled_long w (Some cs) = mended_long (fault_of w cs) w cs

one_long_by : (b : Bool) (w : List ℕ) (asks : List Asked) (r : Result ℕ WordFault) (v : List ℕ) (rest : List Asked) → OneBy b w asks r v rest → length v ≡ length w
one_long_by true w asks r v rest h = ap length h.1
one_long_by false w asks r v rest h = ap length h.3 ∙ settled_long w h.0

pub one_long : (w : List ℕ) (asks : List Asked) (r : Result ℕ WordFault) (v : List ℕ) (rest : List Asked) → One w asks r v rest → length v ≡ length w
one_long w asks r v rest h = one_long_by (is_codeword w) w asks r v rest h

-- the messages of c body words from the i-th on
messages_from : (m : Mode) (L : ℕ) (w : List ℕ) (i c j : ℕ) (asks : List Asked) (n : ℕ) (vs : List (List ℕ)) (rest : List Asked)
    → Words j (map (word_read m L w) (range_with_len i c)) asks (Ok n) vs rest → length (messages_of vs) + min (224 * i) L ≡ min (224 * (i + c)) L
messages_from m L w i zero j asks n vs rest h = rw h.1 (omega arith)
messages_from m L w i (suc c) j asks n vs rest h =
    let f = first j (word_read m L w i) (map (word_read m L w) (range_with_len (i + 1) c)) asks n vs rest h in
    let v = f.word in
    let long = one_long (word_read m L w i) asks (Ok f.count) v f.mid f.one ∙ length_word_read m L w i in
    rw f.all
    (omega (
      arith,
      length-append (take (length v - 16) v) (messages_of f.words),
      length-take-le (length v - 16) v (omega arith),
      long,
      messages_from m L w (i + 1) c (suc j) f.mid f.others f.words rest f.run,
    ))

pub messages_long : (m : Mode) (L : ℕ) (w : List ℕ) (c : ℕ) (asks : List Asked) (n : ℕ) (vs : List (List ℕ)) (rest : List Asked)
    → Words 1 (map (word_read m L w) (range_with_len 0 c)) asks (Ok n) vs rest → length (messages_of vs) ≡ min (224 * c) L
messages_long m L w c asks n vs rest h = omega (arith, messages_from m L w 0 c 1 asks n vs rest h)
