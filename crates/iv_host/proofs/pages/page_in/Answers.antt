use Rattle.std.proofs.Common.{◌∙◌, ap, sym}
use Rattle.std.specs.Prelude.{option_map}
use Rattle.iv_pages.specs.Seen.{asked_by}
use Rattle.iv_host.proofs.PageAnswers.{IsPage-IsFile, IsPage-NotFound}
use Rattle.iv_host.proofs.pages.page_in.Goals as goal

pub returns-in_default : goal.returns-in_default
returns-in_default c = IsPage-NotFound (asked_by c.args.ask.now) _ c.in_ok-missing.ensures

pub returns-in-None : goal.returns-in-None
returns-in-None c = IsPage-NotFound (asked_by c.args.ask.now) _ c.in_ok-missing-in-None.ensures

pub returns : goal.returns
returns c =
    IsPage-IsFile (asked_by c.args.ask.now) c.in-Some.place.items _ _ _ _ (sym c.in_ok-place.ensures ∙ ap (option_map (λ p. p.items)) c.in-Some.is)
    c.deref-in-Some-look_at.ensures.value c.in_ok-page-in-Some-look_at.ensures
