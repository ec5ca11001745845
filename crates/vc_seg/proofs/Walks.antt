-- What the walks share. Assumes `Logic`.
use Rattle.vc_base.proofs.Common.{◌≡◌, ℕ, List, [], ◌∷◌}
use lib.Dec.{T}
use seplogic.Ra.Ura.{Ura}
use mir.Syntax.{Body, Fn, Callee, given as dict_at}
use mir.Val.{Val, has_ty, WT}
use base.Logic.{SProp, ent, sep, via, mono_r}
use base.Fml.{ftrue}
use prog.Model.{Model}
use prog.Wp.{Env, Calls, Loops, Wp, WpFn, Closed, after_seq, after_block}
use contract.Lifetimes.{Lfts}
use contract.Monad.{fact}
use contract.Running.{Running, tables}
use types.Logic.{Logic, sem}
use types.Kit.{Item, Goal, Seq, Post, any_q, post, ‵, raw, ◌⊛◌, ◌$◌, ◌∵◌, !, qed, by, move, split}
use denote.RattleType.{RattleType, owns}
use denote.Param.{layout}
use denote.Param.Laws.{Laws}
use denote.Param.Mute.{blank}
use denote.Exit.{Last, left}
use denote.Laws.{Ises, Are}
use denote.Signature.{Slot, types_at}
use denote.Steps.{heard}
use denote.Triple.Clauses.{Ended, Clauses, closing}
use denote.Triple.End.{Kepts}
use denote.Triple.Entry.{alive, on_entry}
use denote.Triple.Spec.{Meets}
use denote.Triple.Walked.{Stays, AllGo, stay_dropped, walk_of}
use Rattle.std.proofs.alloc.Calls.{Goes-blank, handle_tells}
use Rattle.std.proofs.raw_atomic.Walks.{proved_at}

abbrev pub Good : RattleType → Val → Type 0
Good R v = T (has_ty (layout R) v) × WT v

-- nothing is had of a parameter at the end
abbrev pub all_dropped : {n : ℕ} (ss : List (Slot n)) (ks : Kepts ss) → Stays ss ks
all_dropped [] ks = tt
all_dropped (s ∷ ss) ks = (stay_dropped s ks.0, all_dropped ss ks.1)

-- the parameters leave nothing
abbrev pub AllBlank : (n : ℕ) (ss : List (Slot n)) → Kepts ss → Type 0
AllBlank n [] ks = Unit {0}
AllBlank n (s ∷ ss) ks = ((κs : Lfts n) (x : (s.row κs).Denot) (f : Last ((s.row κs).exit ks.0) x) → T (blank (left ((s.row κs).exit ks.0) x f))) × AllBlank n ss ks.1

pub all_go : {M : Type 1} {𝓤 : Ura M} (𝓛 : Logic 𝓤) (n : ℕ) (ss : List (Slot n)) (ks : Kepts ss) → AllBlank n ss ks → AllGo 𝓛 n ss ks (all_dropped ss ks)
all_go 𝓛 n [] ks is = tt
all_go 𝓛 n (s ∷ ss) ks is = (Goes-blank 𝓛 n s ks.0 is.0, all_go 𝓛 n ss ks.1 is.1)

-- what a walk is of: how a function ends, its clauses and its body
pub record Walk {M : Type 1} (𝓤 : Ura M) (𝓛 : Logic 𝓤) (𝓜 : Model 𝓤 𝓛.H) (𝓡 : Running 𝓤 𝓛.H 𝓜) : Type 2 where
  pub En : Ended
  pub clauses : Clauses 𝓤 En
  pub fn : Fn

module _ {M : Type 1} {𝓤 : Ura M} {𝓛 : Logic 𝓤} {𝓜 : Model 𝓤 𝓛.H} {𝓡 : Running 𝓤 𝓛.H 𝓜} (W : Walk 𝓤 𝓛 𝓜 𝓡) where
  open 𝓛 use {H}

  abbrev pub calls : Calls 𝓤 H
  calls = (tables 𝓤 H 𝓜 𝓡 𝓡.env).C

  abbrev pub loops : Loops 𝓤 H
  loops = (tables 𝓤 H 𝓜 𝓡 𝓡.env).Λ

  abbrev pub dropped : Stays W.En.signature.params W.En.kept
  dropped = all_dropped W.En.signature.params W.En.kept

  abbrev pub Start : Type 0
  Start = (walk_of 𝓛 W.En dropped W.clauses).Ghost

  abbrev pub ends : Start → Val → SProp 𝓤
  ends = (walk_of 𝓛 W.En dropped W.clauses).post

  abbrev pub owned : Start → SProp 𝓤
  owned z = sem 𝓛 (owns (types_at W.En.signature.params z.0.0) z.0.3 z.0.4)

  abbrev pub tokens : Start → SProp 𝓤
  tokens z = alive 𝓛 W.En.signature z.0.0 z.0.1

  -- a walk from the parameters and what their call asks
  pub asks : AllBlank W.En.signature.lifetimes W.En.signature.params W.En.kept → (k : Callee) → Closed 𝓤 H calls loops k W.fn
      → (Asked : Start → Type 0) → ((z : Start) → ent 𝓤 ((W.clauses z.0.0 z.0.3).requires z.1) (fact 𝓤 (Asked z)))
      → ((z : Start) → Are (types_at W.En.signature.params z.0.0) (Ises (types_at W.En.signature.params z.0.0)) z.0.3 z.0.4 → Asked z
      → ent 𝓤 (sep 𝓤 (owned z) (tokens z)) (WpFn 𝓤 H calls loops W.fn ((walk_of 𝓛 W.En dropped W.clauses).args z) (ends z)))
      → Meets 𝓛 W.En.signature (calls k) (closing 𝓛 W.En W.clauses)
  asks is k closed Asked tells walk = proved_at 𝓛 W.En dropped W.clauses 𝓜 𝓡 (all_go 𝓛 W.En.signature.lifetimes W.En.signature.params W.En.kept is) k W.fn closed (λ z are.
      let P : SProp 𝓤 = on_entry 𝓛 W.En.signature z.0.0 z.0.1 z.0.3 z.0.4 in
      via 𝓤 (sep 𝓤 P (fact 𝓤 (Asked z))) (mono_r 𝓤 P (tells z))
      (qed 𝓛 ((raw (tokens z) ⊛ raw (owned z)) ∷ raw (fact 𝓤 (Asked z)) ∷ []) ∵ move ! (1 ∷ []) $ heard ! (Asked z) (λ asked. split ! $ move ! (1 ∷ []) $ by ! (walk z are asked))))

module _ {M : Type 1} {𝓤 : Ura M} (𝓛 : Logic 𝓤) where
  open 𝓛 use {H}

  abbrev pub then_runs : Calls 𝓤 H → Loops 𝓤 H → Env 𝓤 H → Body → Post 𝓤 H → Post 𝓤 H
  then_runs C Λ E b q = any_q (after_seq 𝓤 H (Wp 𝓤 H C Λ E b (post 𝓤 H q)) (post 𝓤 H q))

  abbrev pub out_of_block : Post 𝓤 H → Post 𝓤 H
  out_of_block q = any_q (after_block 𝓤 H (post 𝓤 H q))

module _ {M : Type 1} {𝓤 : Ura M} {𝓛 : Logic 𝓤} {K : Type 0} {Γ : List (Item 𝓤)} {G : Goal 𝓤 𝓛.H} where
  -- what is owned is one machine value, of its type
  pub tells : K → (R : RattleType) → Laws R → (x : R.Denot) (vs : List Val) → ((v : Val) → vs ≡ v ∷ [] → Good R v → Seq K 𝓛 (‵ (R.own_val x (v ∷ [])) ∷ Γ) G) → Seq K 𝓛 (‵ (R.own_val x vs) ∷ Γ) G
  tells t R L = handle_tells (record { row = R; laws = L; g = record { dealloc_token = λ a τ p. ftrue }; d = dict_at 0; drops = dict_at 0 }) t
