use Rattle.std.proofs.Common.{rules, ◌≡◌, ◌∙◌, sym, Some, None}
use Rattle.iv_pages.specs.Cut.{cut_at}
use Rattle.iv_pages.proofs.Cuts.{lt-cut_at}
use Rattle.iv_pages.proofs.Tags.{lists_tag-found, lists_tag-last, lists_tag-next}
use Rattle.iv_pages.proofs.answers.lists_tag.Goals as goal

pub returns-then-is_tag : goal.returns-then-is_tag
returns-then-is_tag c =
    let cut : cut_at 44 c.loop-part.rest.now ≡ Some (c.in-Some.part.now, c.in-Some.later.now) = search rules in
    lists_tag-found c.args.tag.now c.loop-part.rest.now c.in-Some.part.now c.in-Some.later.now _ cut
    (sym c.is_tag.ensures ∙ c.if-is_tag.true) c.loop-part.invariant

pub loop-part-smaller : goal.loop-part-smaller
loop-part-smaller c =
    let cut : cut_at 44 c.loop-part.rest.now ≡ Some (c.in-Some.part.now, c.in-Some.later.now) = search rules in
    lt-cut_at 44 c.loop-part.rest.now (c.in-Some.part.now, c.in-Some.later.now) cut

pub loop-part-preserved : goal.loop-part-preserved
loop-part-preserved c =
    let cut : cut_at 44 c.loop-part.rest.now ≡ Some (c.in-Some.part.now, c.in-Some.later.now) = search rules in
    lists_tag-next c.args.tag.now c.loop-part.rest.now c.in-Some.part.now c.in-Some.later.now _ cut
    (sym c.is_tag.ensures ∙ c.if-is_tag.false) c.loop-part.invariant

pub returns : goal.returns
returns c =
    let cut : cut_at 44 c.loop-part.rest.now ≡ None = search rules in
    lists_tag-last c.args.tag.now c.loop-part.rest.now _ _ cut c.is_tag-2.ensures c.loop-part.invariant
