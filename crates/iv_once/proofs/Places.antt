-- A place that the disk had is not ahead later.
use Rattle.std.proofs.Common.{◌≡◌, ◌⊎◌, inl, inr, ℕ, Bool, true, false, cond, List, [], ◌∷◌, ◌++◌, drop, take, refl, sym, subst, arith}
use Rattle.std.specs.Prelude.{bytes_eq}
use Rattle.std.specs.List.{list_any}
use Rattle.iv_once.specs.Names.{Limits, Ask, named, plain, renewed, Journal, Own, Known, Verdict, carry, again, another, late, foreign, ahead, over, followed, learned, own_of, verdict}
use Rattle.iv_once.specs.Runs.{Event, asks, does, synced, crashed, compacted, restored, forgiven, Run, after, copied, done_by, is_new, kept, names, next, noted, nothing_known, on_disk, restarted, start}
use Rattle.iv_once.specs.Laws.{StaysReached}
use Rattle.iv_once.proofs.Lists.{append-take_drop}
use Rattle.iv_once.proofs.HolderEntries.{epoch-in_epoch, own_of-learned_named, own_of-learned_renewed}
use Rattle.iv_once.proofs.NamesOnce.{IsSeen, not_same-IsSeen, false-not, or-both_false, IsSeen-head, IsSeen-cons}
use Rattle.iv_once.proofs.FinalAnswers.{AreOther, Stays, IsPast-Stays, stays_next}

-- new epochs that wait were seen
abbrev AreDrawn : List (List ℕ) → Journal → Type 0
AreDrawn seen [] = Unit {0}
AreDrawn seen (named e ∷ j) = AreDrawn seen j
AreDrawn seen (plain request ∷ j) = AreDrawn seen j
AreDrawn seen (renewed holder epoch ∷ j) = IsSeen seen epoch × AreDrawn seen j

drawn_more : (x : List ℕ) (seen : List (List ℕ)) (j : Journal) → AreDrawn seen j → AreDrawn (x ∷ seen) j
drawn_more x seen [] h = tt
drawn_more x seen (named e ∷ j) h = drawn_more x seen j h
drawn_more x seen (plain request ∷ j) h = drawn_more x seen j h
drawn_more x seen (renewed holder epoch ∷ j) h = (IsSeen-cons x epoch seen h.0, drawn_more x seen j h.1)

drawn_back : (seen : List (List ℕ)) (a b : Journal) → AreDrawn seen (a ++ b) → AreDrawn seen b
drawn_back seen [] b h = h
drawn_back seen (named e ∷ a) b h = drawn_back seen a b h
drawn_back seen (plain request ∷ a) b h = drawn_back seen a b h
drawn_back seen (renewed holder epoch ∷ a) b h = drawn_back seen a b h.1

abbrev AllSeen : List (List ℕ) → Known → Type 0
AllSeen seen k = (holder : List ℕ) → IsSeen seen (own_of k holder).epoch

seen_followed : (l : Limits) (k : Known) (seen : List (List ℕ)) (w j : Journal) → AllSeen seen (followed l k j) → AreDrawn seen w → AllSeen seen (followed l k (w ++ j))
seen_followed l k seen [] j s h = s
seen_followed l k seen (named e ∷ w) j s h = λ holder. subst (IsSeen seen) (sym (own_of-learned_named l e (followed l k (w ++ j)) holder).0) (seen_followed l k seen w j s h holder)
seen_followed l k seen (plain request ∷ w) j s h = seen_followed l k seen w j s h
seen_followed l k seen (renewed other epoch ∷ w) j s h = λ holder. by holder (seen_followed l k seen w j s h.1 holder) (own_of-learned_renewed l other epoch (followed l k (w ++ j)) holder)
  where
    by : (holder : List ℕ) → IsSeen seen (own_of (followed l k (w ++ j)) holder).epoch → ((own_of (learned l (renewed other epoch) (followed l k (w ++ j))) holder).epoch ≡ epoch) ⊎ (own_of (learned l (renewed other epoch) (followed l k (w ++ j))) holder ≡ own_of (followed l k (w ++ j)) holder)
        → IsSeen seen (own_of (learned l (renewed other epoch) (followed l k (w ++ j))) holder).epoch
    by holder m (inl e) = subst (IsSeen seen) (sym e) h.0
    by holder m (inr e) = subst (λ (o : Own). IsSeen seen o.epoch) (sym e) m

record IsDrawn (l : Limits) (d : Run) : Type 0 where
  disk : AllSeen d.seen (on_disk l d)
  waits : (holder : List ℕ) → AreOther (own_of (on_disk l d) holder).epoch d.waiting
  drawn : AreDrawn d.seen d.waiting

noted_drawn : (l : Limits) (d : Run) (x y : List ℕ) → IsDrawn l d → IsDrawn l (noted d (x ∷ y ∷ []))
noted_drawn l d x y s = record {
  disk = λ holder. IsSeen-cons x (own_of (on_disk l d) holder).epoch (y ∷ d.seen) (IsSeen-cons y (own_of (on_disk l d) holder).epoch d.seen (s.disk holder));
  waits = s.waits;
  drawn = drawn_more x (y ∷ d.seen) d.waiting (drawn_more y d.seen d.waiting s.drawn);
}

done_drawn : (l : Limits) (d : Run) (a : Ask) (answer : List ℕ) (refused : Bool) (new : List ℕ) → list_any (bytes_eq new) d.seen ≡ false → IsDrawn l d → (v : Verdict) → IsDrawn l (done_by (noted d (new ∷ a.at.epoch ∷ [])) a answer refused new v)
done_drawn l d a answer refused new f s carry = let n = noted_drawn l d new a.at.epoch s in record { disk = n.disk; waits = n.waits; drawn = n.drawn }
done_drawn l d a answer refused new f s (again first) = let n = noted_drawn l d new a.at.epoch s in record { disk = n.disk; waits = n.waits; drawn = n.drawn }
done_drawn l d a answer refused new f s another = let n = noted_drawn l d new a.at.epoch s in record { disk = n.disk; waits = n.waits; drawn = n.drawn }
done_drawn l d a answer refused new f s late = let n = noted_drawn l d new a.at.epoch s in record { disk = n.disk; waits = n.waits; drawn = n.drawn }
done_drawn l d a answer refused new f s foreign = let n = noted_drawn l d new a.at.epoch s in record { disk = n.disk; waits = n.waits; drawn = n.drawn }
done_drawn l d a answer refused new f s ahead =
    let n = noted_drawn l d new a.at.epoch s in
    record {
      disk = n.disk;
      waits = λ holder. (λ q. not_same-IsSeen (own_of (on_disk l d) holder).epoch new d.seen (s.disk holder) f (sym q), s.waits holder);
      drawn = (IsSeen-head new (a.at.epoch ∷ d.seen), n.drawn);
    }
done_drawn l d a answer refused new f s over = let n = noted_drawn l d new a.at.epoch s in record { disk = n.disk; waits = n.waits; drawn = n.drawn }

asks_drawn : (l : Limits) (d : Run) (a : Ask) (answer : List ℕ) (refused : Bool) (new : List ℕ) → IsDrawn l d → (b : Bool) → is_new new (a.at.epoch ∷ d.seen) ≡ b → IsDrawn l (cond b (done_by (noted d (new ∷ a.at.epoch ∷ [])) a answer refused new (verdict (names l d) a)) d)
asks_drawn l d a answer refused new s false t = s
asks_drawn l d a answer refused new s true t = done_drawn l d a answer refused new (or-both_false (bytes_eq new a.at.epoch) (list_any (bytes_eq new) d.seen) (false-not (list_any (bytes_eq new) (a.at.epoch ∷ d.seen)) t)).1 s (verdict (names l d) a)

restored_drawn : (l : Limits) (d : Run) (n : ℕ) (new : List ℕ) → IsDrawn l d → (b : Bool) → IsDrawn l (cond b (restarted (copied l (noted d (new ∷ [])) n new)) d)
restored_drawn l d n new s false = s
restored_drawn l d n new s true = record { disk = λ holder. subst (IsSeen (new ∷ d.seen)) (sym (epoch-in_epoch new (followed l (nothing_known new) (drop n (kept d))) holder)) (IsSeen-head new d.seen); waits = λ holder. tt; drawn = tt }

next_drawn : (l : Limits) (d : Run) (e : Event) → IsDrawn l d → IsDrawn l (next l d e)
next_drawn l d (asks a answer refused new) s = asks_drawn l d a answer refused new s (is_new new (a.at.epoch ∷ d.seen)) refl
next_drawn l d (does request) s = record { disk = s.disk; waits = s.waits; drawn = s.drawn }
next_drawn l d synced s = record { disk = seen_followed l d.first d.seen d.waiting d.lines s.disk s.drawn; waits = λ holder. tt; drawn = tt }
next_drawn l d (crashed n) s = record {
  disk = seen_followed l d.first d.seen (drop n d.waiting) d.lines s.disk (drawn_back d.seen (take n d.waiting) (drop n d.waiting) (subst (AreDrawn d.seen) (sym (append-take_drop n d.waiting)) s.drawn));
  waits = λ holder. tt;
  drawn = tt;
}
next_drawn l d compacted s = record { disk = s.disk; waits = s.waits; drawn = s.drawn }
next_drawn l d (restored n new) s = restored_drawn l d n new s (is_new new d.seen)
next_drawn l d forgiven s = record { disk = s.disk; waits = s.waits; drawn = s.drawn }

after_drawn : (l : Limits) (d : Run) (es : List Event) → IsDrawn l d → IsDrawn l (after l d es)
after_drawn l d [] s = s
after_drawn l d (e ∷ es) s = after_drawn l (next l d e) es (next_drawn l d e s)

stays_after : (l : Limits) (most : ℕ) (holder epoch : List ℕ) (d : Run) (es : List Event) → Stays l most holder epoch d → Stays l most holder epoch (after l d es)
stays_after l most holder epoch d [] s = s
stays_after l most holder epoch d (e ∷ es) s = stays_after l most holder epoch (next l d e) es (stays_next l most holder epoch d s e)

reached_by : (l : Limits) (d : Run) → IsDrawn l d → StaysReached l d
reached_by l d s = λ holder es.
    let p = own_of (on_disk l d) holder in
    let now : Stays l p.count holder p.epoch d = record { seen = s.disk holder; disk = λ q. omega arith; others = s.waits holder } in
    IsPast-Stays l p.count holder p.epoch (after l d es) (stays_after l p.count holder p.epoch d es now)

start_drawn : (l : Limits) (epoch : List ℕ) → IsDrawn l (start epoch)
start_drawn l epoch = record { disk = λ holder. IsSeen-head epoch []; waits = λ holder. tt; drawn = tt }

pub StaysReached-after : (l : Limits) (epoch : List ℕ) (es : List Event) → StaysReached l (after l (start epoch) es)
StaysReached-after l epoch es = reached_by l (after l (start epoch) es) (after_drawn l (start epoch) es (start_drawn l epoch))
