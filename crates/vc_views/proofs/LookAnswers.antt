-- What a look through a path promises, by its answer.
use Rattle.vc_base.proofs.Common.{◌≡◌, ℕ, List, map, IfOk, OnOk, ◌==◌, Ok, Err, Option, Result, option_map, refl, ap, ◌∙◌, subst, number_of}
use Rattle.vc_base.specs.declared.addr.Addr.{Addr}
use Rattle.vc_dtdisc.specs.Rules.{Rules}
use Rattle.vc_paths.specs.Layers.{Layered}
use Rattle.vc_paths.specs.Links.{Links}
use Rattle.vc_paths.specs.Path.{visible_of}
use Rattle.vc_commands.specs.Answered.{answered}
use Rattle.vc_commands.specs.Looking.{look_found, look_reply, own_place}
use Rattle.vc_commands.specs.declared.region.home.HomeEntry.{HomeEntry}
use Rattle.vc_script.specs.declared.command.Command.{Command}
use Rattle.vc_script.specs.declared.reply.Reply.{Reply}
use Rattle.vc_views.specs.Dicts.{AreDictsOver, region_seen}
use Rattle.vc_views.specs.LayerLaws.{Entry}
use Rattle.vc_views.specs.Leaves.{KeepsDicts}
use Rattle.vc_views.specs.Promises.{IsLook, LeavesDicts, LooksThrough}

-- a look by the rules of the dictionary's own layer
module _ (all : Layered) (links : Links) (d : ℕ) (command : Command) (rules : Rules) (alike : rules ≡ (all.layer d).rules) where
  pub is-look : {E : Type 0} (answer : Result (Option Addr) E) (shown : Reply)
      → OnOk answer (shown ≡ look_reply rules command (visible_of all links d))
      → IfOk answer (λ at. option_map number_of at ≡ own_place (λ e. e == d) (look_found rules command (visible_of all links d)))
      → IfOk answer (IsLook all links d command shown)
  is-look (Ok at) shown reply place = record {
    reply = reply ∙ ap (λ q. look_reply q command (visible_of all links d)) alike;
    place = place ∙ ap (λ q. own_place (λ e. e == d) (look_found q command (visible_of all links d))) alike;
  }
  is-look (Err e) shown reply place = tt

-- with no memory all is as it was
pub look-halted : {I : Type 0} {V : I → Type 0} {U E : Type 0} (kinds : List Rules) (homes homes' : List (List ℕ × HomeEntry I V)) (dicts dicts' : List Entry) (links : Links) (i : ℕ) (command : Command) (answer : Result U E) (shown : Reply)
    → OnOk answer ⊥ → LeavesDicts kinds homes homes' dicts dicts' → LooksThrough kinds homes homes' dicts dicts' links i command (answered answer shown)
look-halted kinds homes homes' dicts dicts' links i command (Ok done) shown is leaves = absurd is
look-halted kinds homes homes' dicts dicts' links i command (Err e) shown is leaves = record {
  reply = tt;
  homes = leaves.keeps.rest;
  dicts = leaves.dicts;
  ok = tt;
  err = leaves.keeps.seen;
}

-- what a call leaves, of regions and dictionaries that are the same ones
pub leaves-same : {I : Type 0} {V : I → Type 0} {kinds kinds' : List Rules} {homes h homes' : List (List ℕ × HomeEntry I V)} {dicts d dicts' : List Entry} → AreDictsOver kinds' (map region_seen h) d → KeepsDicts kinds kinds' homes h dicts d → h ≡ homes' → d ≡ dicts' → LeavesDicts kinds homes homes' dicts dicts'
leaves-same {I} {V} {kinds} {kinds'} {homes} {h} {homes'} {dicts} {d} {dicts'} are keeps p q =
    subst (λ x. LeavesDicts kinds homes homes' dicts x) q (subst (λ x. LeavesDicts kinds homes x dicts d) p (record {
      dicts = subst (λ k. AreDictsOver k (map region_seen h) d) keeps.rules are;
      keeps = record { rules = refl; rest = keeps.rest; seen = keeps.seen };
    }))
