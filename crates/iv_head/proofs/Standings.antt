-- Names that stand where lines say.
use Rattle.std.proofs.Common.{◌≡◌, ℕ, ◌+◌, ◌<◌, List, [], ◌∷◌, ◌++◌, get_or, length, take, refl, ap, ◌∙◌, sym}
use Rattle.std.proofs.lemmas.List.{take_more}
use Rattle.iv_once.specs.Names.{Known, Names, begun}
use Rattle.iv_head.specs.Begun.{Standing, stood}

abbrev stands : Known → Standing → Known
stands k s = begun k s.holder s.at.epoch s.at.count

stood_more : (k : Known) (ss : List Standing) (s : Standing) → stood k (ss ++ s ∷ []) ≡ stands (stood k ss) s
stood_more k [] s = refl
stood_more k (t ∷ ss) s = stood_more (stands k t) ss s

pub stood-take_next : (first now later : Names) (ss : List Standing) (i : ℕ) (s : Standing) → i < length ss → s ≡ get_or ss i s → now ≡ record first { known = stood first.known (take i ss) }
    → later ≡ record now { known = begun now.known s.holder s.at.epoch s.at.count } → later ≡ record first { known = stood first.known (take (i + 1) ss) }
stood-take_next first now later ss i s h e k l =
    let more : take (i + 1) ss ≡ take i ss ++ s ∷ [] = take_more ss i s h ∙ ap (λ z. take i ss ++ z ∷ []) (sym e) in
    l ∙ (ap (λ (z : Names). record z { known = stands z.known s }) k
    ∙ ap (λ (z : Known). record first { known = z }) (sym (ap (stood first.known) more ∙ stood_more first.known (take i ss) s)))
