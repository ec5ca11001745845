-- What a step promises, from the moment before it to the one after it.
use Rattle.std.specs.Prelude.{◌≡◌, ℕ, ◌+◌, List, [], None, Result, Ok, Err, false, IfSome, length, slice_get}
use Rattle.vc_model.specs.Discipline.{Discipline}
use Rattle.vc_dtdisc.specs.Rules.{Gone, Rules}
use Rattle.vc_objects.specs.Remove.{bytes_of}
use Rattle.vc_paths.specs.Links.{below}
use Rattle.vc_script.specs.Needs.{Need, need_shown}
use Rattle.vc_script.specs.declared.command.Command.{Command}
use Rattle.vc_script.specs.declared.reply.Reply.{Reply}
use Rattle.vc_seg.specs.declared.shelf.Shelf.{Shelf}
use Rattle.vc_steps.specs.Account.{ArmsNone, KeepsAccounts, SameAsked, Settles}
use Rattle.vc_steps.specs.DictHomes.{dict_home}
use Rattle.vc_views.specs.Numbers.{views_by}
use Rattle.vc_steps.specs.Dicts.{shut_state, told_of}
use Rattle.vc_steps.specs.Homes.{IsSessionOver, held_in_session, settled_over, slots_on}
use Rattle.vc_steps.specs.WantedSegments.{IsCutOff, StepLacksFor}
use Rattle.vc_steps.specs.Moment.{Moment, moment}
use Rattle.vc_steps.specs.Refusals.{refusal_at}
use Rattle.vc_steps.specs.State.{State, Stepped}
use Rattle.vc_views.specs.Views.{DictHome}
use Rattle.vc_steps.specs.Step.{GivesStep}
use Rattle.vc_steps.specs.Told.{KeepRules, tell}
use Rattle.vc_steps.specs.declared.session.Session.{Session}

-- a command was run with a reply, where the definitions give such a step
pub record Steps (now next : Moment) (command : Command) (given : Stepped) (reply : Reply) : Type 0 where
  -- the reply and the state are those of the definitions, and the kinds were told so
  pub gives : GivesStep given now.gone reply next.state next.gone
  -- the disciplines are the same, and no fault was counted at any place but for a segment that the reply refuses, or by an exception of an armed one
  pub settles : Settles now.armed now.accounts next.accounts (refusal_at now.state command reply)
  -- disciplines are armed as before
  pub armed : next.armed ≡ now.armed
  -- the discipline that refused it was asked for what is needed, and its room was below that, where it is told
  pub lacks : StepLacksFor now.state now.regions next.regions command reply

-- a command found no memory
pub record Halts (now next : Moment) (command : Command) : Type 0 where
  -- the state stays, but that the table of the command's dictionary may have grown
  pub state : IsCutOff now.state command next.state
  -- the kinds were told of nothing
  pub gone : next.gone ≡ now.gone
  -- the disciplines are the same, and no fault was counted but by an exception of an armed one
  pub settles : Settles now.armed now.accounts next.accounts []
  -- they are armed as before
  pub armed : next.armed ≡ now.armed

-- by the answer of a command; the definitions give a step by the state and by the need that the reply shows
abbrev pub StepsBy : {E : Type 0} → Result Reply E → Moment → Moment → Command → (State → Need → Stepped) → Type 0
StepsBy (Ok reply) now next command given = Steps now next command (given now.state (need_shown reply)) reply
StepsBy (Err e) now next command given = Halts now next command

-- what lasts of a session over a shelf and kinds, whatever was run
pub record Lasts {I : Type 0} {V : I → Type 0} {D : Type 0} (meaning : (x : I) × V x → Discipline) (rules : D → Rules) (shelf : Shelf I V) (session : Session D I V) (kinds : List D) (shelf' : Shelf I V) (session' : Session D I V) (kinds' : List D) : Type 0 where
  -- it stands over them
  pub stands : IsSessionOver meaning rules shelf' session' kinds'
  -- the kinds have the rules that they had
  pub keeps_rules : KeepRules rules kinds kinds'
  -- each place has its discipline, with the segments out and the terms that it had, and no fault less
  pub accounts : KeepsAccounts (settled_over meaning shelf session) (settled_over meaning shelf' session')
  -- it arms disciplines as before, and where it doesn't none was asked for an exception
  pub armed : session'.is_armed ≡ session.is_armed
  pub asked : session.is_armed ≡ false → SameAsked (settled_over meaning shelf session) (settled_over meaning shelf' session')
  -- and what goes back is unarmed
  pub arms_none : ArmsNone (slots_on meaning shelf) (slots_on meaning shelf')

-- a session was run over a shelf and kinds: that lasts of it, and that was run from the moment before to the one after
pub record RunsOver {I : Type 0} {V : I → Type 0} {D : Type 0} (meaning : (x : I) × V x → Discipline) (rules : D → Rules) (gone : D → Gone) (shelf : Shelf I V) (session : Session D I V) (kinds : List D) (shelf' : Shelf I V) (session' : Session D I V) (kinds' : List D) (ran : Moment → Moment → Type 0) : Type 0 where
  pub lasts : Lasts meaning rules shelf session kinds shelf' session' kinds'
  pub runs : ran (moment meaning rules gone shelf session kinds) (moment meaning rules gone shelf' session' kinds')

-- and whether it found no memory
pub record KeepsSpent {I : Type 0} {V : I → Type 0} {D : Type 0} (meaning : (x : I) × V x → Discipline) (rules : D → Rules) (shelf : Shelf I V) (session : Session D I V) (kinds : List D) (shelf' : Shelf I V) (session' : Session D I V) (kinds' : List D) : Type 0 where
  pub lasts : Lasts meaning rules shelf session kinds shelf' session' kinds'
  pub spent : session'.is_spent ≡ session.is_spent

-- a dictionary was ended
pub record Shuts (now next : Moment) (d : DictHome) : Type 0 where
  pub state : next.state ≡ shut_state now.state d
  -- its kind was told of its objects
  pub gone : next.gone ≡ tell (told_of d.kind (bytes_of d.dict.objects)) now.gone
  pub accounts : next.accounts ≡ now.accounts

-- of a session over a shelf the dictionary at an index was ended
pub record ShutsAt {I : Type 0} {V : I → Type 0} {D : Type 0} (meaning : (x : I) × V x → Discipline) (rules : D → Rules) (gone : D → Gone) (shelf : Shelf I V) (session : Session D I V) (kinds : List D) (session' : Session D I V) (kinds' : List D) (i : ℕ) : Type 0 where
  pub shuts : IfSome (slice_get session.dicts.entries i) (λ e. Shuts (moment meaning rules gone shelf session kinds) (moment meaning rules gone shelf session' kinds') (dict_home (held_in_session meaning session) (views_by session.paths session.dicts.entries) e))
  pub fewer : length session'.dicts.entries + 1 ≡ length session.dicts.entries
  pub homes : length session'.homes.entries ≡ length session.homes.entries
  -- and what viewed none does so still
  pub views : (n : ℕ) → below session.paths n ≡ None → below session'.paths n ≡ None
