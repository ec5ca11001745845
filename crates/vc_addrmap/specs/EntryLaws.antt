-- What a store of entries keeps of itself, as its type has to show.
use Rattle.std.specs.Prelude.{◌≡◌, ℕ, ◌<◌, ◌^◌, true, false, refl}
use Rattle.std.specs.Ordering.{nat_cmp}
use Rattle.std.proofs.Common.{ap, ◌∙◌, arith}
use Rattle.std.proofs.lemmas.Bool.Decides.{nat_tests}
use Rattle.slab.specs.Slab.{Slab}
use Rattle.vc_addrmap.specs.declared.entries.Entry.{Entry}
use Rattle.vc_addrmap.specs.Entries.{StaysButLinks, entry_side, entry_store, has_entry}

pub entry-none : (s : Slab Entry) → has_entry s 0 ≡ false
entry-none s = refl

pub entry-fits : (s : Slab Entry) (n : ℕ) → has_entry s n ≡ true → n < 2 ^ 32
entry-fits s n h = grind (arith, nat_tests)

pub but_links_none : (s : Slab Entry) → StaysButLinks s s
but_links_none s = record { there = λ n. refl; addresses = λ n. refl; values = λ n. refl; count = refl; vacant = refl; capacity = refl }

pub but_links_twice : (a b c : Slab Entry) → StaysButLinks a b → StaysButLinks b c → StaysButLinks a c
but_links_twice a b c h k = record {
  there = λ n. k.there n ∙ h.there n;
  addresses = λ n. k.addresses n ∙ h.addresses n;
  values = λ n. k.values n ∙ h.values n;
  count = k.count ∙ h.count;
  vacant = k.vacant ∙ h.vacant;
  capacity = k.capacity ∙ h.capacity;
}

pub names_stay : (old new : Slab Entry) → StaysButLinks old new → (entry_store new).has ≡ (entry_store old).has
names_stay old new s = λ i n. s.there n i

pub side_stays : (old new : Slab Entry) (at n : ℕ) → StaysButLinks old new → entry_side new at n ≡ entry_side old at n
side_stays old new at n s = ap (λ z. nat_cmp z at) (s.addresses n)
