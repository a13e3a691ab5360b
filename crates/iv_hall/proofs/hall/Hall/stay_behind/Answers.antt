use Rattle.std.proofs.Common.{◌∙◌, ◌∷◌, [], ap, map, sym, refl}
use Rattle.iv_command.specs.Views.{line_of}
use Rattle.iv_clients.specs.Clients.{at_all}
use Rattle.iv_clients.specs.Kept.{keeping_on}
use Rattle.iv_hall.specs.Listing.{walked}
use Rattle.iv_hall.specs.Readers.{readers_of}
use Rattle.iv_hall.proofs.FeedEnds.{IsEnding-feed_ended, at_all-keeping_on_IsNoEnd, IsNoEnd-feed_ended, walked-keeping_on, IsHall-keeping_on}
use Rattle.iv_hall.proofs.WaitingBytes.{AreCounted-at_all}
use Rattle.iv_hall.proofs.hall.Hall.stay_behind.Goals as goal

pub invariant_of-self : goal.invariant_of-self
invariant_of-self c = (
  IsHall-keeping_on c.self.inside.most c.self.inside.slots.items _ c.self.inside.owed c.self.inside.told c.self.inside.readers.items _ c.in-Some.feed
      (line_of c.args.line.now) c.self.invariant.0 (IsEnding-feed_ended (line_of c.args.line.now) c.in-Some.feed (sym c.in-Some.is ∙ c.feed_ended.ensures))
      (c.stay_listed.ensures ∙ (ap (λ ls. walked (keeping_on (map line_of ls)) c.readers_of-numbers.result.now c.self.inside.slots.items)
      c.from_ref.ensures.value ∙ walked-keeping_on c.self.inside.slots.items c.self.inside.most c.self.inside.owed c.self.inside.told
      c.self.inside.readers.items
      c.readers_of-numbers.result.now c.in-Some.feed (line_of c.args.line.now) c.self.invariant.0
      (IsEnding-feed_ended (line_of c.args.line.now) c.in-Some.feed (sym c.in-Some.is ∙ c.feed_ended.ensures))
      (c.readers_of-numbers.ensures.numbers ∙ ap (λ z. readers_of z c.in-Some.feed) c.deref.ensures.value) c.readers_of-numbers.ensures.once))
      c.disband.ensures,
  AreCounted-at_all c.self.inside.waiting (keeping_on (line_of c.args.line.now ∷ [])) c.self.inside.slots.items _ (λ k. refl)
      (c.stay_listed.ensures ∙ (ap (λ ls. walked (keeping_on (map line_of ls)) c.readers_of-numbers.result.now c.self.inside.slots.items)
      c.from_ref.ensures.value ∙ walked-keeping_on c.self.inside.slots.items c.self.inside.most c.self.inside.owed c.self.inside.told
      c.self.inside.readers.items
      c.readers_of-numbers.result.now c.in-Some.feed (line_of c.args.line.now) c.self.invariant.0
      (IsEnding-feed_ended (line_of c.args.line.now) c.in-Some.feed (sym c.in-Some.is ∙ c.feed_ended.ensures))
      (c.readers_of-numbers.ensures.numbers ∙ ap (λ z. readers_of z c.in-Some.feed) c.deref.ensures.value) c.readers_of-numbers.ensures.once))
      c.self.invariant.1,
)

pub returns-in-Some : goal.returns-in-Some
returns-in-Some c = (c.stay_listed.ensures ∙ (ap (λ ls. walked (keeping_on (map line_of ls)) c.readers_of-numbers.result.now c.self.inside.slots.items)
    c.from_ref.ensures.value ∙ walked-keeping_on c.self.inside.slots.items c.self.inside.most c.self.inside.owed c.self.inside.told c.self.inside.readers.items
    c.readers_of-numbers.result.now c.in-Some.feed (line_of c.args.line.now) c.self.invariant.0
    (IsEnding-feed_ended (line_of c.args.line.now) c.in-Some.feed (sym c.in-Some.is ∙ c.feed_ended.ensures))
    (c.readers_of-numbers.ensures.numbers ∙ ap (λ z. readers_of z c.in-Some.feed) c.deref.ensures.value) c.readers_of-numbers.ensures.once))
    ∙ ap (at_all (keeping_on (line_of c.args.line.now ∷ []))) c.self.view_is

pub returns-in-None : goal.returns-in-None
returns-in-None c =
    at_all-keeping_on_IsNoEnd (line_of c.args.line.now) c.args.self.now (IsNoEnd-feed_ended (line_of c.args.line.now) (sym c.in-None.is ∙ c.feed_ended.ensures))
