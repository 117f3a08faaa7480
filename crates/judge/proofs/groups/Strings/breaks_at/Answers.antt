-- `Strings::breaks_at` meets its contract. The invariant: no record from `q` on shares more with `r` than the record just before it, which shares
-- `near`. Where the walk stops at a record that shares less, no record further back shares more either (`keeps_from`).
use Rattle.std.proofs.Common.{ℕ, ◌-◌, ◌≤◌, ◌<◌, pred, length, ◌≡◌, ◌∙◌, sym, ap, arith, sub-one}
use Rattle.judge.specs.declared.groups.Strings.{Strings}
use Rattle.judge.specs.inside.Groups.{strings_by}
use Rattle.table.proofs.Grouping.{agreed}
use Rattle.table.proofs.GroupLaws.{breaks_by, keeps_by, keeps_whole, keeps_from, one_more_back, strings_at, agreed_at}
use Rattle.judge.proofs.groups.Strings.breaks_at.Goals as goal
use Rattle.judge.proofs.groups.Strings.breaks_at.Goals.{After-agreement_of-near, After-agreement_of-shared}

-- in how many characters record `q` agrees with `r`
abbrev shared : Strings → ℕ → ℕ → ℕ
shared t r q = agreed (strings_by t) q r

-- what the record just before shares, and an earlier one
near_is : (c : After-agreement_of-near) → c.agreement_of-near.result ≡ shared c.args.self.now c.args.r (pred c.args.r)
near_is c =
    let t = c.args.self.now in
    c.agreement_of-near.ensures
    ∙ agreed_at t.image.now t.sections (c.args.r - 1) c.args.r (omega arith) (omega arith) c.string_of.ensures c.string_of-string.ensures
    ∙ ap (shared t c.args.r) (sub-one c.args.r)

shared_is : (c : After-agreement_of-shared) → c.agreement_of-shared.result ≡ shared c.args.self.now c.args.r (c.loop-q.q - 1)
shared_is c =
    let t = c.args.self.now in
    c.agreement_of-shared.ensures
    ∙ agreed_at t.image.now t.sections (c.loop-q.q - 1) c.args.r (omega arith) (omega arith) c.string_of-in-loop-q.ensures c.string_of-string.ensures

pub returns-then-near-string : goal.returns-then-near-string
returns-then-near-string c =
    let t = c.args.self.now in
    let near = near_is (goal.at.returns-then-near-string c).After-agreement_of-near in
    let e = ap length (strings_at t.image.now t.sections c.args.r c.requires.1 ∙ sym c.string_of-string.ensures) in
    sym (keeps_whole (strings_by t) c.args.r (omega arith))

pub loop-q-init : goal.loop-q-init
loop-q-init c = λ j l u.
    let t = c.args.self.now in
    let near = near_is (goal.at.loop-q-init c).After-agreement_of-near in
    let e : shared t c.args.r j ≡ shared t c.args.r (pred c.args.r) = ap (shared t c.args.r) (omega arith) in
    omega arith

pub returns-then-near-shared : goal.returns-then-near-shared
returns-then-near-shared c =
    let t = c.args.self.now in
    let at = goal.at.returns-then-near-shared c in
    let near = near_is at.After-agreement_of-near in
    let n = shared_is at.After-agreement_of-shared in
    sym (breaks_by (strings_by t) c.args.r (c.loop-q.q - 1) (omega arith) (omega arith))

pub returns-then-shared-near : goal.returns-then-shared-near
returns-then-shared-near c =
    let t = c.args.self.now in
    let at = goal.at.returns-then-shared-near c in
    let near = near_is at.After-agreement_of-near in
    let n = shared_is at.After-agreement_of-shared in
    let passed : (j : ℕ) → c.loop-q.q - 1 ≤ j → j < c.args.r → shared t c.args.r j ≤ c.agreement_of-near.result =
    one_more_back (λ (j : ℕ). shared t c.args.r j ≤ c.agreement_of-near.result) c.loop-q.q c.args.r c.loop-q.invariant (omega arith) in
    sym
    (keeps_from (strings_by t) c.args.r (c.loop-q.q - 1) (omega arith) (omega arith) c.requires.2
    (λ j v u. let p = passed j v u in omega arith))

pub loop-q-preserved : goal.loop-q-preserved
loop-q-preserved c =
    let t = c.args.self.now in
    let n = shared_is (goal.at.loop-q-preserved c).After-agreement_of-shared in
    one_more_back (λ (j : ℕ). shared t c.args.r j ≤ c.agreement_of-near.result) c.loop-q.q c.args.r c.loop-q.invariant (omega arith)

pub returns : goal.returns
returns c =
    let t = c.args.self.now in
    let near = near_is (goal.at.returns c).After-agreement_of-near in
    sym (keeps_by (strings_by t) c.args.r (λ q u. let p = c.loop-q.invariant q (omega arith) u in omega arith))
