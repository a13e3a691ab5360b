use Rattle.std.proofs.Common.{◌≡◌, length}
use Rattle.iv_pages.specs.Answer.{lists_tag}
use Rattle.iv_pages.proofs.answers.lists_tag.Given as goal

abbrev pub invariant-loop-part : goal.invariant-loop-part
invariant-loop-part l = lists_tag l.tag l.rest ≡ lists_tag l.tag l.list

abbrev pub decreases-loop-part : goal.decreases-loop-part
decreases-loop-part l = length l.rest
