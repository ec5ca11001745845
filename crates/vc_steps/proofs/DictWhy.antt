-- The four reasons for which no dictionary is opened before its table is asked for.
use Rattle.vc_base.proofs.Common.{◌≡◌, ℕ, ◌<◌, ◌≤◌, Bool, true, false, cond, not, ◌&&◌, List, length, nat_le, Some, None, Option, sym, refl, subst, arith, nat_tests, and_parts, none-some, same_Some, list_any}
use Rattle.vc_base.specs.declared.dict_method.DictMethod.{DictMethod}
use Rattle.vc_script.specs.declared.command.Command.TheVariants.{OpenDict}
use Rattle.vc_script.specs.declared.refusal.Refusal.{Refusal}
use Rattle.vc_script.specs.declared.refusal.Refusal.TheVariants as why
use Rattle.vc_script.specs.declared.reply.Reply.TheVariants.{Refused}
use Rattle.vc_region.specs.Region.{is_best}
use Rattle.vc_steps.specs.Account.{Account, Settles}
use Rattle.vc_commands.specs.Held.{Held}
use Rattle.vc_steps.specs.Dicts.{dict_limit, dict_refused, is_kind}
use Rattle.vc_views.specs.Views.{is_dict}
use Rattle.vc_steps.specs.WantedSegments.{StepLacksFor}
use Rattle.vc_steps.specs.Refusals.{refusal_at}
use Rattle.vc_commands.specs.Home.{Home}
use Rattle.vc_steps.specs.State.{State}
use Rattle.vc_steps.proofs.SettledShelf.{settles-same}

-- none of them is the want of a segment
abbrev pub IsEarly : Refusal → Type 0
IsEarly why.DictionaryExists = Unit {0}
IsEarly why.NoSuchKind = Unit {0}
IsEarly why.WrongMethod = Unit {0}
IsEarly why.TooManyDictionaries = Unit {0}
IsEarly x = ⊥

early : (exists kind best full : Bool) (x : Refusal) → cond exists (Some why.DictionaryExists) (cond (not kind) (Some why.NoSuchKind) (cond (not best) (Some why.WrongMethod) (cond full (Some why.TooManyDictionaries) None))) ≡ Some x → IsEarly x
early true kind best full x is = subst IsEarly (same_Some why.DictionaryExists x is) tt
early false false best full x is = subst IsEarly (same_Some why.NoSuchKind x is) tt
early false true false full x is = subst IsEarly (same_Some why.WrongMethod x is) tt
early false true true true x is = subst IsEarly (same_Some why.TooManyDictionaries x is) tt
early false true true false x is = absurd (none-some x is)

pub refused-early : (s : State) (h : Home) (d : List ℕ) (k : ℕ) (x : Refusal) → dict_refused s h d k ≡ Some x → IsEarly x
refused-early s h d k x is = early (list_any (is_dict d) s.dicts) (is_kind s k) (is_best h.region) (nat_le dict_limit (length s.dicts)) x is

pub settles-early : {armed : Bool} (s : State) (shelf : List (Option Account)) (d r : List ℕ) (method : DictMethod) (k : ℕ) (x : Refusal) → IsEarly x → Settles armed shelf shelf (refusal_at s (OpenDict d method r k) (Refused x))
settles-early s shelf d r method k why.DictionaryExists is = settles-same shelf
settles-early s shelf d r method k why.NoSuchKind is = settles-same shelf
settles-early s shelf d r method k why.WrongMethod is = settles-same shelf
settles-early s shelf d r method k why.TooManyDictionaries is = settles-same shelf
settles-early s shelf d r method k x is = absurd is

pub lacks-early : (s : State) (before after : List Held) (d r : List ℕ) (method : DictMethod) (k : ℕ) (x : Refusal) → IsEarly x → StepLacksFor s before after (OpenDict d method r k) (Refused x)
lacks-early s before after d r method k why.DictionaryExists is = tt
lacks-early s before after d r method k why.NoSuchKind is = tt
lacks-early s before after d r method k why.WrongMethod is = tt
lacks-early s before after d r method k why.TooManyDictionaries is = tt
lacks-early s before after d r method k x is = absurd is

-- with no reason no dictionary has the name, the kind is there, the region is a best one, and there are not too many
pub record IsAllowed (s : State) (h : Home) (d : List ℕ) (k : ℕ) : Type 0 where
  pub new : list_any (is_dict d) s.dicts ≡ false
  pub kind : is_kind s k ≡ true
  pub best : is_best h.region ≡ true
  pub few : nat_le dict_limit (length s.dicts) ≡ false

allowed : (exists kind best full : Bool) → cond exists (Some why.DictionaryExists) (cond (not kind) (Some why.NoSuchKind) (cond (not best) (Some why.WrongMethod) (cond full (Some why.TooManyDictionaries) None))) ≡ None → (exists ≡ false) × (kind ≡ true) × (best ≡ true) × (full ≡ false)
allowed true kind best full is = absurd (none-some why.DictionaryExists (sym is))
allowed false false best full is = absurd (none-some why.NoSuchKind (sym is))
allowed false true false full is = absurd (none-some why.WrongMethod (sym is))
allowed false true true true is = absurd (none-some why.TooManyDictionaries (sym is))
allowed false true true false is = (refl, refl, refl, refl)

pub refused-none : (s : State) (h : Home) (d : List ℕ) (k : ℕ) → dict_refused s h d k ≡ None → IsAllowed s h d k
refused-none s h d k is =
    let parts = allowed (list_any (is_dict d) s.dicts) (is_kind s k) (is_best h.region) (nat_le dict_limit (length s.dicts)) is in
    record { new = parts.0; kind = parts.1; best = parts.2; few = parts.3 }

pub kind-within : (k n : ℕ) → (nat_le 1 k && nat_le k n) ≡ true → (1 ≤ k) × (k ≤ n)
kind-within k n is =
    let parts = and_parts (nat_le 1 k) (nat_le k n) is in
    (let low : 1 ≤ k = grind (arith, nat_tests, parts.0) in low, let high : k ≤ n = grind (arith, nat_tests, parts.1) in high)

pub few-within : (n : ℕ) → nat_le dict_limit n ≡ false → n < 256
few-within n few = grind (arith, nat_tests, few)
