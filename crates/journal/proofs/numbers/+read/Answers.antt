-- A number, group by group. Assumes nothing.
use Rattle.std.proofs.Common.{rules, Ok, Err}
use Prim.Native.Nat.{suc, ◌+◌, ◌*◌}
use mathlib.Core.Path.{◌≡◌, ◌∙◌}
use native.Mathlib.Omega.{arith}
use Rattle.journal.specs.declared.Refusal.TheVariants.{CutShort, Wrong}
use Rattle.journal.proofs.GroupLaws.{capacity_least, capacity_most}
use Rattle.journal.proofs.ReadLaws.{ended, last_group, seventh, next_refused, next_zero, next_joined, value_fits}
use Rattle.journal.proofs.numbers.+read.Goals as goal

-- ---- with no further group

pub returns-in_err-b-clause-value : goal.returns-in_err-b-clause-value
returns-in_err-b-clause-value t c =
    let e : c.from_residual.result ≡ Err CutShort = search rules in
    e ∙ ended c.args.bytes.now c.args.at c.args.more (search rules)

pub returns-then-b-lt-TOP-clause-value : goal.returns-then-b-lt-TOP-clause-value
returns-then-b-lt-TOP-clause-value t c =
    (λ i. Ok (record { value = c.from.ensures i; next = c.args.at + 1 }))
    ∙ last_group c.args.bytes.now c.args.at c.args.more c.in_ok-b.b (search rules) (search rules) c.if-b-lt-TOP.true

pub returns-then-b-lt-TOP-clause-value_bound : goal.returns-then-b-lt-TOP-clause-value_bound
returns-then-b-lt-TOP-clause-value_bound t c = omega (arith, capacity_least c.args.more, c.from.ensures)

pub returns-in_err-more-clause-value : goal.returns-in_err-more-clause-value
returns-in_err-more-clause-value t c =
    let e : c.from_residual-in_err-more.result ≡ Err Wrong = search rules in
    e
    ∙ seventh c.args.bytes.now c.args.at c.args.more c.in_ok-b.b (search rules) (search rules) c.if-b-lt-TOP.false
    (search rules)

-- ---- before one more

pub returns-in_err-rest-clause-value : goal.returns-in_err-rest-clause-value
returns-in_err-rest-clause-value t c =
    let e : c.from_residual-in_err-rest.result ≡ Err c.in_err-rest.field-0.0 = search rules in
    e
    ∙ next_refused c.args.bytes.now c.args.at c.args.more c.in_ok-b.b (search rules) (search rules) c.if-b-lt-TOP.false
    c.in_ok-more.more (search rules) c.in_err-rest.field-0.0 c.in_err-rest.ensures.value

pub returns-then-rest-eq0-clause-value : goal.returns-then-rest-eq0-clause-value
returns-then-rest-eq0-clause-value t c =
    next_zero c.args.bytes.now c.args.at c.args.more c.in_ok-b.b (search rules) (search rules) c.if-b-lt-TOP.false
    c.in_ok-more.more (search rules) c.in_ok-rest.rest c.in_ok-rest.ensures.value c.if-rest-eq0.true

pub overflow_mul-result : goal.overflow_mul-result
overflow_mul-result t c =
    let some : c.args.more ≡ suc c.in_ok-more.more = search rules in
    let v = value_fits c.args.more c.in_ok-more.more 0 c.in_ok-rest.rest.value some (omega arith)
    c.in_ok-rest.ensures.value_bound in
    record { fits = omega (arith, v, capacity_most c.args.more c.requires) }

pub overflow_add-result-2 : goal.overflow_add-result-2
overflow_add-result-2 t c =
    let some : c.args.more ≡ suc c.in_ok-more.more = search rules in
    let v = value_fits c.args.more c.in_ok-more.more c.in_ok-b.b c.in_ok-rest.rest.value some (search rules)
    c.in_ok-rest.ensures.value_bound in
    record { fits = omega (arith, v, c.from-2.ensures, capacity_most c.args.more c.requires) }

pub returns-clause-value : goal.returns-clause-value
returns-clause-value t c =
    (λ i. Ok (record {
      value = c.from-2.ensures i + 128 * c.in_ok-rest.rest.value;
      next = c.in_ok-rest.rest.next;
    }))
    ∙ next_joined c.args.bytes.now c.args.at c.args.more c.in_ok-b.b (search rules) (search rules) c.if-b-lt-TOP.false
    c.in_ok-more.more (search rules) c.in_ok-rest.rest c.in_ok-rest.ensures.value c.if-rest-eq0.false

pub returns-clause-value_bound : goal.returns-clause-value_bound
returns-clause-value_bound t c =
    let some : c.args.more ≡ suc c.in_ok-more.more = search rules in
    let v = value_fits c.args.more c.in_ok-more.more c.in_ok-b.b c.in_ok-rest.rest.value some (search rules)
    c.in_ok-rest.ensures.value_bound in
    omega (arith, v, c.from-2.ensures)
