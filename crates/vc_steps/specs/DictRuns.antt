-- What is promised of a command that is run on a dictionary, and of the ending of all of them.
use Rattle.std.specs.Prelude.{◌≡◌, ℕ, List, [], Result, Some}
use Rattle.vc_model.specs.Discipline.{Discipline}
use Rattle.vc_dtdisc.specs.Rules.{Gone, Rules}
use Rattle.vc_script.specs.declared.command.Command.{Command}
use Rattle.vc_script.specs.declared.reply.Reply.{Reply}
use Rattle.vc_seg.specs.declared.shelf.Shelf.{Shelf}
use Rattle.vc_steps.specs.DictHomes.{dict_index}
use Rattle.vc_steps.specs.Dicts.{dict_step}
use Rattle.vc_steps.specs.Homes.{IsSessionOver, settled_over, state_over}
use Rattle.vc_steps.specs.Moment.{moment}
use Rattle.vc_steps.specs.Steps.{KeepsSpent, StepsBy}
use Rattle.vc_steps.specs.Told.{KeepRules, ended_told, gone_in, rules_in, tell}
use Rattle.vc_steps.specs.declared.session.Session.{Session}

-- a session stands over a shelf and kinds, and its dictionary of a name is the one of an index, from 0 on
pub record HasDictAt {I : Type 0} {V : I → Type 0} {D : Type 0} (meaning : (x : I) × V x → Discipline) (rules : D → Rules) (shelf : Shelf I V) (session : Session D I V) (kinds : List D) (name : List ℕ) (i : ℕ) : Type 0 where
  pub stands : IsSessionOver meaning rules shelf session kinds
  pub index : dict_index name session.dicts.entries ≡ Some i

-- a command on the dictionary of a name was answered
pub record RunsOn {I : Type 0} {V : I → Type 0} {D E : Type 0} (meaning : (x : I) × V x → Discipline) (rules : D → Rules) (gone : D → Gone) (shelf : Shelf I V) (session : Session D I V) (kinds : List D) (session' : Session D I V) (kinds' : List D) (name : List ℕ) (command : Command) (answer : Result Reply E) : Type 0 where
  -- as the definitions give it
  pub steps : StepsBy answer (moment meaning rules gone shelf session kinds) (moment meaning rules gone shelf session' kinds') command (λ s. dict_step s name command)
  -- and the session stands over the same shelf
  pub stays : KeepsSpent meaning rules shelf session kinds shelf session' kinds'

-- every dictionary of a session was ended
pub record ShutsAll {I : Type 0} {V : I → Type 0} {D : Type 0} (meaning : (x : I) × V x → Discipline) (rules : D → Rules) (gone : D → Gone) (shelf : Shelf I V) (session : Session D I V) (kinds : List D) (session' : Session D I V) (kinds' : List D) : Type 0 where
  pub none : session'.dicts.entries ≡ []
  -- the kinds were told of all their objects
  pub told : gone_in gone kinds' ≡ tell (ended_told (state_over meaning (rules_in rules kinds) shelf session)) (gone_in gone kinds)
  pub stands : IsSessionOver meaning rules shelf session' kinds'
  pub keeps_rules : KeepRules rules kinds kinds'
  -- and each place has the account that it had
  pub settled : settled_over meaning shelf session' ≡ settled_over meaning shelf session
