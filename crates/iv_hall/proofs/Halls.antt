-- What is listed of clients stays so, whatever is done to one of them, or to all.
use Rattle.std.proofs.Common.{◌≡◌, ◌∙◌, ◌⊎◌, inl, inr, ℕ, false, List, [], set, Option, Some, refl, ap, sym, subst, arith}
use Rattle.std.specs.Prelude.{◌==◌}
use Rattle.std.specs.List.{list_any}
use Rattle.std.proofs.lemmas.Bool.{cases_eq, false≢true}
use Rattle.iv_rows.specs.Options.{if_some}
use Rattle.iv_clients.specs.Clients.{Sub, at_all, at_client, client_at}
use Rattle.iv_clients.specs.Kept.{Kept, Places, is_following, is_told}
use Rattle.iv_clients.proofs.Slots.{length-at_all, length-at_client, length-set_slot, Some-client_at_set}
use Rattle.iv_hall.specs.Hall.{AreNumbered, IsHall, is_owed}
use Rattle.iv_hall.specs.Listing.{AreThose, is_so_at}
use Rattle.iv_hall.specs.Numbers.{HasLost, Numbers}
use Rattle.iv_hall.specs.Readers.{HasLeft, Readers, readers_of}
use Rattle.iv_hall.proofs.OwnNumbers.{AreAllNumbered-at_all, AreAllNumbered-at_client}
use Rattle.iv_hall.proofs.QuietClients.{FollowsAlike}
use Rattle.iv_hall.proofs.ClientLists.{client_at-set_apart, is_so_at-at_all_same, is_so_at-at_client_same, true-is_so_at_set, AreThose-but_one, AreThose-none, AreThose-same}

-- nobody is there
pub IsHall-empty : (most : ℕ) (places : Places) (owing telling : Numbers) (reading : List Readers) → places ≡ [] → owing ≡ record { list = []; size = most }
    → telling ≡ record { list = []; size = most } → reading ≡ [] → IsHall most places owing telling reading
IsHall-empty most places owing telling reading e o t r = subst (λ z. IsHall most z owing telling reading) (sym e) (record {
  within = omega arith;
  owed_size = ap (λ (x : Numbers). x.size) o;
  told_size = ap (λ (x : Numbers). x.size) t;
  owed = AreThose-none is_owed owing.list [] (ap (λ (x : Numbers). x.list) o) (λ m. refl);
  told = AreThose-none is_told telling.list [] (ap (λ (x : Numbers). x.list) t) (λ m. refl);
  readers = λ feed. AreThose-none (is_following feed) (readers_of reading feed) [] (ap (λ z. readers_of z feed) r) (λ m. refl);
  numbered = λ m k there. cc;
})

same_numbers : (f : Kept → Kept) → ((k : Kept) → FollowsAlike k (f k)) → (k : Kept) → AreNumbered k.given k.subs → AreNumbered (f k).given (f k).subs
same_numbers f s k a = subst (λ g. AreNumbered g (f k).subs) (sym (s k).given) (subst (AreNumbered k.given) (sym (s k).subs) a)

-- one client changes, and follows the same
pub IsHall-at_client : (most : ℕ) (xs ys : Places) (owing owing' telling telling' : Numbers) (reading : List Readers) (n : ℕ) (f : Kept → Kept)
    → IsHall most xs owing telling reading → ys ≡ at_client n f xs → owing'.size ≡ owing.size → telling'.size ≡ telling.size
    → ((k : Kept) → FollowsAlike k (f k))
    → AreThose is_owed owing'.list (at_client n f xs) → AreThose is_told telling'.list (at_client n f xs)
    → IsHall most ys owing' telling' reading
IsHall-at_client most xs ys owing owing' telling telling' reading n f h e os ts alike owed told =
    subst (λ z. IsHall most z owing' telling' reading) (sym e) (record {
      within = omega (arith, h.within, length-at_client n f xs);
      owed_size = os ∙ h.owed_size;
      told_size = ts ∙ h.told_size;
      owed = owed;
      told = told;
      readers = λ feed. AreThose-same (is_following feed) (readers_of reading feed) xs (at_client n f xs)
          (is_so_at-at_client_same (is_following feed) f n xs (λ k. ap (list_any (λ (s : Sub). feed == s.feed)) (alike k).subs)) (h.readers feed);
      numbered = AreAllNumbered-at_client n f xs (same_numbers f alike) h.numbered;
    })

-- one client follows something else, and is told nothing
pub IsHall-at_client_following : (most : ℕ) (xs ys : Places) (owing telling : Numbers) (reading reading' : List Readers) (n : ℕ) (f : Kept → Kept)
    → IsHall most xs owing telling reading → ys ≡ at_client n f xs → ((k : Kept) → is_owed (f k) ≡ is_owed k) → ((k : Kept) → is_told (f k) ≡ is_told k)
    → ((k : Kept) → AreNumbered k.given k.subs → AreNumbered (f k).given (f k).subs)
    → ((feed : ℕ) → AreThose (is_following feed) (readers_of reading' feed) (at_client n f xs))
    → IsHall most ys owing telling reading'
IsHall-at_client_following most xs ys owing telling reading reading' n f h e owed told numbers readers =
    subst (λ z. IsHall most z owing telling reading') (sym e) (record {
      within = omega (arith, h.within, length-at_client n f xs);
      owed_size = h.owed_size;
      told_size = h.told_size;
      owed = AreThose-same is_owed owing.list xs (at_client n f xs) (is_so_at-at_client_same is_owed f n xs owed) h.owed;
      told = AreThose-same is_told telling.list xs (at_client n f xs) (is_so_at-at_client_same is_told f n xs told) h.told;
      readers = readers;
      numbered = AreAllNumbered-at_client n f xs numbers h.numbered;
    })

-- one comes, whom nobody owes anything and who follows nothing, or one goes
pub IsHall-set : (most : ℕ) (xs ys : Places) (owing owing' telling telling' : Numbers) (reading reading' : List Readers) (n : ℕ) (who : Option Kept)
    → IsHall most xs owing telling reading → ys ≡ set xs n who → HasLost n owing owing' → HasLeft n (λ k. is_so_at (is_following k) xs n) reading reading'
    → telling'.size ≡ telling.size → AreThose is_told telling'.list (set xs n who)
    → if_some who false is_owed ≡ false → ((feed : ℕ) → if_some who false (is_following feed) ≡ false)
    → ((k : Kept) → who ≡ Some k → AreNumbered k.given k.subs) → IsHall most ys owing' telling' reading'
IsHall-set most xs ys owing owing' telling telling' reading reading' n who h e o l ts told owes follows numbers =
    subst (λ z. IsHall most z owing' telling' reading') (sym e) (record {
      within = omega (arith, h.within, length-set_slot n who xs);
      owed_size = o.size ∙ h.owed_size;
      told_size = ts ∙ h.told_size;
      owed = AreThose-but_one is_owed n owing.list owing'.list xs (set xs n who) h.owed (client_at-set_apart n who xs) o.kept (λ m ne c. o.only m c)
          (λ t. absurd (false≢true (sym owes ∙ true-is_so_at_set is_owed n who xs t))) (λ c. absurd (o.gone c));
      told = told;
      readers = λ feed. AreThose-but_one (is_following feed) n (readers_of reading feed) (readers_of reading' feed) xs (set xs n who) (h.readers feed)
          (client_at-set_apart n who xs) (l.kept feed) (λ m ne c. l.only feed m c)
          (λ t. absurd (false≢true (sym (follows feed) ∙ true-is_so_at_set (is_following feed) n who xs t)))
          (λ c. absurd (l.gone feed ((h.readers feed).only n (l.only feed n c)) c));
      numbered = λ m k there. numbered m k there (cases_eq m n);
    })
  where
    numbered : (m : ℕ) (k : Kept) → client_at (set xs n who) m ≡ Some k → (m ≡ n) ⊎ (m ≡ n → ⊥) → AreNumbered k.given k.subs
    numbered m k there (inl x) = numbers k (Some-client_at_set n who xs k (ap (client_at (set xs n who)) (sym x) ∙ there))
    numbered m k there (inr ne) = h.numbered m k (sym (client_at-set_apart n who xs m ne) ∙ there)

-- all change, and follow the same
pub IsHall-at_all : (most : ℕ) (xs ys : Places) (owing owing' telling telling' : Numbers) (reading : List Readers) (f : Kept → Kept)
    → IsHall most xs owing telling reading → ys ≡ at_all f xs → owing'.size ≡ owing.size → telling'.size ≡ telling.size
    → ((k : Kept) → FollowsAlike k (f k))
    → AreThose is_owed owing'.list (at_all f xs) → AreThose is_told telling'.list (at_all f xs)
    → IsHall most ys owing' telling' reading
IsHall-at_all most xs ys owing owing' telling telling' reading f h e os ts alike owed told =
    subst (λ z. IsHall most z owing' telling' reading) (sym e) (record {
      within = omega (arith, h.within, length-at_all f xs);
      owed_size = os ∙ h.owed_size;
      told_size = ts ∙ h.told_size;
      owed = owed;
      told = told;
      readers = λ feed. AreThose-same (is_following feed) (readers_of reading feed) xs (at_all f xs)
          (is_so_at-at_all_same (is_following feed) f xs (λ k. ap (list_any (λ (s : Sub). feed == s.feed)) (alike k).subs)) (h.readers feed);
      numbered = AreAllNumbered-at_all f xs (same_numbers f alike) h.numbered;
    })
