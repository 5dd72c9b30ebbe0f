use Rattle.oim_merge.proofs.Shared.{◌+◌, drop, sym, take_rest, IsNumberText}
use Rattle.oim_merge.proofs.EventTexts.{cut_numbers, joined_numbers, numbers_have_space}
use Rattle.oim_merge.proofs.event.read_two_numbers.Goals as goal

pub returns-in_err-space : goal.returns-in_err-space
returns-in_err-space c = rw c.from_residual.ensures (λ m n. numbers_have_space c.args.text.now m n (sym c.in_err-space.ensures.index))

pub returns-in_err-first : goal.returns-in_err-first
returns-in_err-first c =
    let found = sym c.in_ok-space.ensures.index in
    rw c.from_residual-in_err-first.ensures (λ m n are. c.in_err-first.ensures m (cut_numbers c.args.text.now m n c.in_ok-space.space are found).0)

pub returns-in_err-second : goal.returns-in_err-second
returns-in_err-second c =
    let found = sym c.in_ok-space.ensures.index in
    let none = rw take_rest at c.in_err-second.ensures in
    rw c.from_residual-in_err-second.ensures (λ m n are. none n (cut_numbers c.args.text.now m n c.in_ok-space.space are found).1)

pub returns : goal.returns
returns c =
    let found = sym c.in_ok-space.ensures.index in
    let second : IsNumberText (drop (c.in_ok-space.space + 1) c.args.text.now) c.in_ok-second.second = rw take_rest at c.in_ok-second.ensures in
    joined_numbers c.args.text.now c.in_ok-first.first c.in_ok-second.second c.in_ok-space.space found c.in_ok-first.ensures second
