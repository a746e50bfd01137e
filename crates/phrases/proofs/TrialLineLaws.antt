-- The printed D line as the program preview reads it: four words, and each number spells what was asked for. Assumes
-- nothing.
use Rattle.std.proofs.Common.{Some}
use Prim.Native.Nat.{ℕ, suc, ◌+◌, ◌≤◌, ◌<◌}
use native.Mathlib.Omega.{arith}
use mathlib.Core.List.{List, [], ◌∷◌, ◌++◌}
use mathlib.Core.Path.{◌≡◌, refl, ap, ◌∙◌}
use borrow.Author.Tests.{le-ltb, lt-leb}
use lib.Dec.{eqb}
use lib.ListN.{length, length-append}
use Rattle.digits.specs.Digits.{six_of}
use Rattle.receiver.specs.Receiver.{before}
use Rattle.text.specs.Decimal.{decimal_of}
use Rattle.text.specs.Parts.{behind, marks, same}
use Rattle.text.proofs.DecimalLaws.{decimal_ten}
use Rattle.numerals.specs.Numerals.{spelled_of}
use Rattle.screen.specs.Asked.{asking, asked_of}
use Rattle.sentences.specs.Places as K
use Rattle.sentences.specs.Sentences.{place_of}
use Rattle.phrases.specs.Meanings.{word, words}
use Rattle.phrases.specs.Phrases.{trial_line_text, words_text}
use Rattle.phrases.specs.Promises.{TrialLine}
use Rattle.phrases.proofs.SpelledLaws.{NoSpace, Spells, spelled, decimal_spells, six_spells}

-- ---- Words one behind another

-- A word alone, and the first of several.
last_word : (a : List ℕ) → NoSpace a → before (λ c. eqb c 32) a ≡ a
unfolding before
last_word [] h = refl
last_word (c ∷ cs) h = rw h.0 (ap (λ (x : List ℕ). c ∷ x) (last_word cs h.1))

next_word : (a b : List ℕ) → NoSpace a → before (λ c. eqb c 32) (a ++ (32 ∷ b)) ≡ a
unfolding before
next_word [] b h = refl
next_word (c ∷ cs) b h = rw h.0 (ap (λ (x : List ℕ). c ∷ x) (next_word cs b h.1))

behind_word : (k : ℕ) (a b : List ℕ) → NoSpace a → behind 32 (suc k) (a ++ (32 ∷ b)) ≡ behind 32 k b
unfolding behind
behind_word k [] b h = refl
behind_word k (c ∷ cs) b h = rw h.0 (behind_word k cs b h.1)

no_marks : (a : List ℕ) → NoSpace a → marks 32 a ≡ 0
unfolding marks
no_marks [] h = refl
no_marks (c ∷ cs) h = rw h.0 (omega (arith, no_marks cs h.1))

one_mark : (a b : List ℕ) → NoSpace a → marks 32 (a ++ (32 ∷ b)) ≡ suc (marks 32 b)
unfolding marks
one_mark [] b h = omega arith
one_mark (c ∷ cs) b h = rw h.0 (omega (arith, one_mark cs b h.1))

-- ---- D and three numbers

module _ {k n w : ℕ} (ks ns ws : List ℕ) (a : Spells 10 k ks) (b : Spells 10 n ns) (d : Spells 16 w ws)
    (short : length ks + (length ns + length ws) ≤ 90) where
  abbrev line : List ℕ
  line = 68 ∷ 32 ∷ (ks ++ (32 ∷ (ns ++ (32 ∷ ws))))

  long : length line < 100
  long = omega (arith, length-append ks (32 ∷ (ns ++ (32 ∷ ws))), length-append ns (32 ∷ ws))

  four : words line ≡ 4
  unfolding marks
  four =
      let r = ns ++ (32 ∷ ws) in
      omega (arith, one_mark ks r a.no_space, one_mark ns ws b.no_space, no_marks ws d.no_space)

  master : word 1 line ≡ ks
  unfolding behind
  master = next_word ks (ns ++ (32 ∷ ws)) a.no_space

  ticks : word 2 line ≡ ns
  unfolding behind
  ticks = rw (behind_word 0 ks (ns ++ (32 ∷ ws)) a.no_space) (next_word ns ws b.no_space)

  input : word 3 line ≡ ws
  unfolding behind
  input =
      rw (behind_word 1 ks (ns ++ (32 ∷ ws)) a.no_space, behind_word 0 ns ws b.no_space)
      (last_word ws d.no_space)

  line_read : asked_of line ≡ asking k n w
  unfolding asked_of before behind same
  line_read =
      rw (
        lt-leb 100 (length line) long,
        four,
        master,
        ticks,
        input,
        spelled 10 k ks a,
        spelled 10 n ns b,
        spelled 16 w ws d,
      )

trial_read : (k n w : ℕ) → k ≤ 4 → n ≤ 1000000 → w < 16777216 → asked_of (trial_line_text k n w) ≡ asking k n w
unfolding six_of
trial_read k n w g h l =
    let x : length (decimal_of k) ≤ 10 = decimal_ten k (omega arith) in
    let y : length (decimal_of n) ≤ 10 = decimal_ten n (omega arith) in
    rw (le-ltb 16777215 w (omega arith), le-ltb 1000000 n h, le-ltb 4 k g)
    (line_read (decimal_of k) (decimal_of n) (six_of w) (decimal_spells k (omega arith)) (decimal_spells n (omega arith))
    (six_spells w l) (omega arith))

-- ---- A line of words

module _ (l : List ℕ) (k : ℕ) (first : place_of (word 0 l) ≡ K.trial) (m : spelled_of 10 (word 1 l) ≡ Some k) where
  said_text : (n w : ℕ) → words l ≡ 4 → spelled_of 10 (word 2 l) ≡ Some n → spelled_of 16 (word 3 l) ≡ Some w
      → words_text l ≡ trial_line_text k n w
  unfolding words_text
  said_text n w e p q = rw (first, e, m, p, q)

  wordless_text : (n : ℕ) → words l ≡ 3 → spelled_of 10 (word 2 l) ≡ Some n → words_text l ≡ trial_line_text k n 0
  unfolding words_text
  wordless_text n e p = rw (first, e, m, p)

  alone_text : words l ≡ 2 → words_text l ≡ trial_line_text k 1000000 0
  unfolding words_text
  alone_text e = rw (first, e, m)

pub trial_line : TrialLine
trial_line = record {
  asked = trial_read;
  said = λ l k n w f e m p q g h i. ap asked_of (said_text l k f m n w e p q) ∙ trial_read k n w g h i;
  wordless = λ l k n f e m p g h. ap asked_of (wordless_text l k f m n e p) ∙ trial_read k n 0 g h (omega arith);
  alone = λ l k f e m g. ap asked_of (alone_text l k f m e) ∙ trial_read k 1000000 0 g (omega arith) (omega arith);
}
