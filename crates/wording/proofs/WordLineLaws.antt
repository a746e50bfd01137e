-- No answer to words has a line feed within it. Assumes nothing.
use Rattle.std.proofs.Common.{Option, Some, None, Ok, Err}
use Prim.Native.Nat.{ℕ}
use mathlib.Core.Bool.{Bool, cond}
use mathlib.Core.List.{List, ◌++◌}
use mathlib.Core.Path.{refl}
use lib.Dec.{ltb, eqb}
use Rattle.laws.proofs.Pick.{by_bool}
use Rattle.digits.specs.Digits.{end_byte, six_of}
use Rattle.block.specs.Block.{front_of}
use Rattle.line.specs.Ranges.{is_within}
use Rattle.host.specs.Master.{master_of}
use Rattle.host.specs.Watch.{watch_off}
use Rattle.host.specs.Writer.{has_line, line_of}
use Rattle.host.specs.declared.Request.{Request}
use Rattle.machine.specs.Calls.{chars}
use Rattle.text.specs.Decimal.{decimal_of}
use Rattle.text.specs.Parts.{part}
use Rattle.numerals.specs.Numerals.{spelled_of}
use Rattle.sentences.specs.Places as K
use Rattle.sentences.specs.Sentences.{
  sentences,
  forms,
  word_count,
  closest,
  place_of,
  sentence_text,
  turned_text,
  question_text,
}
use Rattle.phrases.specs.declared.meaning.NoCommand.TheVariants as N
use Rattle.phrases.specs.Meanings.{Meant, word, words, meant_by}
use Rattle.phrases.specs.Phrases.{
  is_silent,
  unsilenced,
  named_of,
  body_of,
  nearest_text,
  line_text,
  request_text,
  command_text,
  opening_text,
  number_at,
  are_distances,
  distances_of,
  master_text,
  tick_text,
  tick_line_text,
  ticks_text,
  trial_line_text,
  tried_text,
  trial_text,
  words_text,
  overlong_text,
}
use Rattle.wording.proofs.OneLineLaws.{is_line, Clean, join, either, first_part, row, decimal, six, line_clean}

-- ---- fixed words

pub turned : (n : ℕ) → Clean (turned_text n)
unfolding is_line
turned n = join (decimal_of n) (chars ": " ++ sentence_text n) (decimal n) (row n sentences)

question : (w : List ℕ) → Clean (question_text w)
unfolding is_line
question w = row (closest word_count w) forms

-- ---- words

pub line : (r : Request) → Clean (line_text r)
line r =
    by_bool Clean (has_line r) (part end_byte 0 (line_of r)) (turned_text 19)
    (λ h. first_part end_byte (line_of r) (line_clean r h)) (λ _. turned 19)

request : (silent : Bool) (ident : Option ℕ) (l : List ℕ) (m : Meant) → Clean (request_text silent ident l m)
request silent ident l (Err N.Misspelled) = question (word 0 (body_of l))
request silent ident l (Ok c) = line (record { silent = silent; command = c; ident = ident })
request silent ident l (Err N.NotExact) = turned 21

command : (l : List ℕ) → Clean (command_text l)
unfolding command_text
command l = request (is_silent l) (named_of (unsilenced l)).ident l (meant_by (body_of l))

opening : (l : List ℕ) → Clean (opening_text l)
unfolding is_line
opening l =
    either (eqb (words l) 1) (part end_byte 0 watch_off) (nearest_text l) (first_part end_byte watch_off refl)
    (question (word 0 (body_of l)))

master : (l : List ℕ) → Clean (master_text l)
unfolding is_line
master l =
    either (are_distances l) (chars "master " ++ decimal_of (master_of (distances_of l))) (nearest_text l)
    (decimal (master_of (distances_of l))) (question (word 0 (body_of l)))

tick : (n w : ℕ) → Clean (tick_text n w)
unfolding is_line
tick n w =
    either (ltb 16777215 w) (turned_text 3) (chars "T " ++ (decimal_of n ++ (chars " " ++ six_of w))) (turned 3)
    (join (decimal_of n) (chars " " ++ six_of w) (decimal n) (six w))

tick_line : (l : List ℕ) (n : ℕ) (s : Option ℕ) → Clean (tick_line_text l n s)
tick_line l n None = question (word 0 (body_of l))
tick_line l n (Some w) =
    either (is_within n 1 1000000) (tick_text n w) (nearest_text l) (tick n w) (question (word 0 (body_of l)))

ticks : (l : List ℕ) → Clean (ticks_text l)
ticks l =
    let a = tick_line_text l (number_at l 1) (Some 0) in
    let b = tick_line_text l (number_at l 1) (spelled_of 16 (word 2 l)) in
    either (eqb (words l) 2) a (cond (eqb (words l) 3) b (nearest_text l)) (tick_line l (number_at l 1) (Some 0))
    (either (eqb (words l) 3) b (nearest_text l) (tick_line l (number_at l 1) (spelled_of 16 (word 2 l)))
    (question (word 0 (body_of l))))

trial_line : (k n w : ℕ) → Clean (trial_line_text k n w)
unfolding is_line
trial_line k n w =
    let r = decimal_of n ++ (chars " " ++ six_of w) in
    let a = chars "D " ++ (decimal_of k ++ (chars " " ++ r)) in
    let b = cond (ltb 4 k) (turned_text 10) a in
    either (ltb 16777215 w) (turned_text 3) (cond (ltb 1000000 n) (turned_text 25) b) (turned 3)
    (either (ltb 1000000 n) (turned_text 25) b (turned 25)
    (either (ltb 4 k) (turned_text 10) a (turned 10)
    (join (decimal_of k) (chars " " ++ r) (decimal k)
    (join (decimal_of n) (chars " " ++ six_of w) (decimal n) (six w)))))

tried : (l : List ℕ) (k n w : Option ℕ) → Clean (tried_text l k n w)
tried l None n w = question (word 0 (body_of l))
tried l (Some k) None w = question (word 0 (body_of l))
tried l (Some k) (Some n) None = question (word 0 (body_of l))
tried l (Some k) (Some n) (Some w) = trial_line k n w

trial : (l : List ℕ) → Clean (trial_text l)
trial l =
    let k = spelled_of 10 (word 1 l) in
    let n = spelled_of 10 (word 2 l) in
    let w = spelled_of 16 (word 3 l) in
    let d = tried_text l k n w in
    let e = cond (eqb (words l) 4) d (nearest_text l) in
    let b = tried_text l k n (Some 0) in
    either (eqb (words l) 2) (tried_text l k (Some 1000000) (Some 0)) (cond (eqb (words l) 3) b e)
    (tried l k (Some 1000000) (Some 0))
    (either (eqb (words l) 3) b e (tried l k n (Some 0))
    (either (eqb (words l) 4) d (nearest_text l) (tried l k n w) (question (word 0 (body_of l)))))

pub said : (l : List ℕ) → Clean (words_text l)
unfolding words_text
said l =
    let k = place_of (word 0 l) in
    let d = cond (eqb k K.trial) (trial_text l) (command_text l) in
    let t = cond (eqb k K.ticks) (ticks_text l) d in
    either (eqb k K.opening) (opening_text l) (cond (eqb k K.master) (master_text l) t) (opening l)
    (either (eqb k K.master) (master_text l) t (master l)
    (either (eqb k K.ticks) (ticks_text l) d (ticks l)
    (either (eqb k K.trial) (trial_text l) (command_text l) (trial l) (command l))))

pub overlong : (l : List ℕ) → Clean (overlong_text l)
unfolding overlong_text
overlong l = question (word 0 (unsilenced (front_of l 100)))
