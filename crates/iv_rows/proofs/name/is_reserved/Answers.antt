-- Of the reserved words only those with as many bytes as the text are compared with it.
use Rattle.std.proofs.Common.{◌≡◌, ◌==◌, ◌∙◌, ℕ, List, [], length, refl, sym, ap, arith, bytes_eq}
use Rattle.std.specs.List.{list_any, filter}
use Rattle.iv_rows.specs.Names.{reserved}
use Rattle.iv_rows.proofs.Words.{is_reserved-of_length, reserved-of_no_length}
use Rattle.iv_rows.proofs.name.is_reserved.Goals as goal

pub returns-in-2 : goal.returns-in-2
unfolding reserved
returns-in-2 c = c.is_one_of.ensures ∙ is_reserved-of_length 2 c.args.text.now c.in-2.is

pub returns-in-3 : goal.returns-in-3
unfolding reserved
returns-in-3 c = c.is_one_of-in-3.ensures ∙ is_reserved-of_length 3 c.args.text.now c.in-3.is

pub returns-in-4 : goal.returns-in-4
unfolding reserved
returns-in-4 c = c.is_one_of-in-4.ensures ∙ is_reserved-of_length 4 c.args.text.now c.in-4.is

pub returns-in-5 : goal.returns-in-5
unfolding reserved
returns-in-5 c = c.is_one_of-in-5.ensures ∙ is_reserved-of_length 5 c.args.text.now c.in-5.is

pub returns-in-6 : goal.returns-in-6
unfolding reserved
returns-in-6 c = c.is_one_of-in-6.ensures ∙ is_reserved-of_length 6 c.args.text.now c.in-6.is

pub returns-in-7 : goal.returns-in-7
unfolding reserved
returns-in-7 c = c.is_one_of-in-7.ensures ∙ is_reserved-of_length 7 c.args.text.now c.in-7.is

pub returns-in-8 : goal.returns-in-8
unfolding reserved
returns-in-8 c = c.is_one_of-in-8.ensures ∙ is_reserved-of_length 8 c.args.text.now c.in-8.is

pub returns-in-9 : goal.returns-in-9
unfolding reserved
returns-in-9 c = c.is_one_of-in-9.ensures ∙ is_reserved-of_length 9 c.args.text.now c.in-9.is

pub returns-in-12 : goal.returns-in-12
unfolding reserved
returns-in-12 c = c.is_one_of-in-12.ensures ∙ is_reserved-of_length 12 c.args.text.now c.in-12.is

pub returns-in_default : goal.returns-in_default
returns-in_default c =
    let s : List ℕ = c.args.text.now in
    let n : ℕ = length s in
    let none : filter (λ w. length w == n) reserved ≡ [] =
    reserved-of_no_length n (omega arith) (omega arith) (omega arith) (omega arith) (omega arith) (omega arith) (omega arith) (omega arith) (omega arith) in
    sym (ap (list_any (λ w. bytes_eq w s)) none) ∙ is_reserved-of_length n s refl
