use Rattle.std.proofs.Common.{◌≡◌, ◌∙◌, ◌+◌, ◌++◌, ◌∷◌, ◌<◌, [], List, ap, length, refl, set, subst, sym, take, true}
use Rattle.std.proofs.lemmas.List.{take_all, take_more}
use Rattle.iv_readers.specs.Held.{Reading, is_read_at}
use Rattle.iv_readers.proofs.Lists.{AllByRecursion-get_or}
use Rattle.iv_readers.proofs.ReadFlags.{AreReadFlags, AreReadFlags-more}
use Rattle.iv_readers.proofs.readers.set_read.Goals as goal

pub loop-reader-init : goal.loop-reader-init
loop-reader-init c = record { long = refl; each = c.requires.unset }

pub loop-reader-preserved : goal.loop-reader-preserved
loop-reader-preserved c =
    let rs = c.args.readers.now in
    let i = c.loop-reader.reader-index in
    let r = c.reader-item.result in
    let at : c.reader.inside.at.0 ≡ r.at = ap (λ (x : Reading). x.at) c.reader.view_is in
    let low = AllByRecursion-get_or (λ (x : Reading). x.at < length c.args.flags.now) rs i r c.requires.within c.loop-reader-test.true c.reader-item.is in
    let more : take (i + 1) rs ≡ take i rs ++ r ∷ [] = take_more rs i r c.loop-reader-test.true ∙ ap (λ x. take i rs ++ x ∷ []) (sym c.reader-item.is) in
    let new = set c.loop-reader.flags c.reader.inside.at.0 true in
    let is : new ≡ set c.loop-reader.flags r.at true = ap (λ n. set c.loop-reader.flags n true) at in
    subst (λ (xs : List Reading). AreReadFlags xs c.args.flags.now new) (sym more) (AreReadFlags-more (take i rs) r c.args.flags.now c.loop-reader.flags new c.loop-reader.invariant low is)

pub returns : goal.returns
returns c = λ i. c.loop-reader.invariant.each i ∙ ap (λ (xs : List Reading). is_read_at xs i) (take_all c.loop-reader.reader-index c.args.readers.now c.loop-reader-test.false)
