use Rattle.std.proofs.Common.{◌≡◌, ◌<◌, ◌≤◌, ap, sym, ◌∙◌, ◌++◌, ◌∷◌, [], map, true, false, subst, option_map}
use Rattle.std.specs.Prelude.{is_some}
use Rattle.iv_access.specs.Faults.{count_like}
use Rattle.iv_access.specs.Access.{relation_of}
use Rattle.iv_access.specs.Stored.{relation_at}
use Rattle.iv_access.proofs.RelationCounts.{count_like-push, is_some-option_map}
use Rattle.iv_access.proofs.NewRelation.{insert_entry-new_relation}
use Rattle.iv_access.proofs.relations.Relations.push.Goals as goal

pub invariant_of-self-2 : goal.invariant_of-self-2
invariant_of-self-2 c =
    let m = c.self.inside.kinds in
    let text = c.in_ok-text.text in
    let after : map relation_at c.insert.new.self.entries ≡ map relation_at m.entries ++ relation_at (text, c.args.kinds) ∷ [] =
    ap (map relation_at) c.in_ok-insert.ensures.entries ∙ insert_entry-new_relation m text c.args.kinds c.args.name.now c.in_ok-text.ensures.ok (ap (λ rs. relation_of rs c.args.name.now) c.self.view_is ∙ c.requires.new) in
    let room : count_like (is_some (option_map (λ ks. ks.items) c.args.kinds)) (map relation_at m.entries) < 64 =
    subst (λ rs. count_like (is_some (option_map (λ ks. ks.items) c.args.kinds)) rs < 64) (sym c.self.view_is) (subst (λ b. count_like b c.args.self.now < 64) (sym (is_some-option_map (λ ks. ks.items) c.args.kinds)) c.requires.room) in
    subst (λ rs. (count_like true rs ≤ 64) × (count_like false rs ≤ 64)) (sym after) (count_like-push (map relation_at m.entries) (relation_at (text, c.args.kinds)) room c.self.invariant.0 c.self.invariant.1)

pub returns-clause-ok : goal.returns-clause-ok
returns-clause-ok c =
    let m = c.self.inside.kinds in
    let text = c.in_ok-text.text in
    ap (map relation_at) c.in_ok-insert.ensures.entries
    ∙ insert_entry-new_relation m text c.args.kinds c.args.name.now c.in_ok-text.ensures.ok (ap (λ rs. relation_of rs c.args.name.now) c.self.view_is ∙ c.requires.new)
    ∙ (λ i. c.self.view_is i ++ record { name = c.in_ok-text.ensures.ok i; kinds = option_map (λ ks. ks.items) c.args.kinds } ∷ [])
