-- What the commands on a region promise together, by the reply that each gives.
use Rattle.vc_base.proofs.Common.{◌≡◌, ℕ, Bool, List, [], ℤ, IfOk, OnOk, OnErr, false, true≢false, Some, None, Ok, Err, Option, Result, sym, refl, subst, Discipline, NoneRefused}
use Rattle.vc_region.specs.Parts.{disc_in}
use Rattle.vc_script.specs.declared.command.Command.{Command}
use Rattle.vc_script.specs.declared.command.Command.TheVariants.{ClearRegion, Compact, Alloc, Align, Resize, Free, WriteBlock, ReadBlock, SizeOf, AddrOf, SegmentOf, StatOf, Segments, Blocks, Poke, Check, Watch, ProfileOf}
use Rattle.vc_script.specs.declared.place.Place.{Place}
use Rattle.vc_script.specs.declared.refusal.Refusal.TheVariants as why
use Rattle.vc_script.specs.declared.reply.Reply.{Reply}
use Rattle.vc_script.specs.declared.reply.Reply.TheVariants.{Refused}
use Rattle.vc_script.specs.Needs.{Need, need_shown}
use Rattle.vc_commands.specs.Held.{home_of}
use Rattle.vc_commands.specs.Home.{Changed, Home, refusal_alone}
use Rattle.vc_commands.specs.RegionCommands.{in_region, puts_block}
use Rattle.vc_commands.specs.RegionRun.{RunsHome, RunsRegion, held_of, region_with}
use Rattle.vc_commands.specs.declared.region.home.HomeEntry.{HomeEntry}
use Rattle.vc_commands.specs.declared.region.labels.Labels.{Labels}
use Rattle.vc_commands.proofs.Answers.{IsAn, err-all}
use Rattle.vc_commands.proofs.Grants.{IsGranted, not_refused}

-- an answer that is none tells nothing
halted-all : {E : Type 0} (result : Result Reply E) (P : Reply → Type 0) → OnOk result ⊥ → IfOk result P
halted-all (Ok told) P is = absurd is
halted-all (Err e) P is = tt

halted-not : {E : Type 0} (result : Result Reply E) (told : Reply) → OnOk result ⊥ → result ≡ Ok told → ⊥
halted-not (Ok x) told is e = is
halted-not (Err x) told is e = subst IsAn (sym e) tt

module _ {I : Type 0} {V : I → Type 0} (meaning : (x : I) × V x → Discipline) {E : Type 0} (result : Result Reply E)
    (before : HomeEntry I V) (old : Labels) (after : HomeEntry I V) (new : Labels) (gives : Home → Need → Changed) where
  abbrev GivesAll : Type 0
  GivesAll = IfOk result (λ reply. RunsRegion meaning (λ h. gives h (need_shown reply)) before old (region_with after new) reply)

  -- a command that is refused no segment tells of none
  none-unserved : ((h : Home) (need : Need) → IsGranted (gives h need).reply) → GivesAll → result ≡ Ok (Refused why.NoSegment) → ⊥
  none-unserved granted step e =
      let ran = subst (λ r. IfOk r (λ reply. RunsRegion meaning (λ h. gives h (need_shown reply)) before old (region_with after new) reply)) e step in
      not_refused (gives (home_of (held_of meaning [] before old)) (need_shown (Refused why.NoSegment))) (Refused why.NoSegment)
      (granted (home_of (held_of meaning [] before old)) (need_shown (Refused why.NoSegment))) (ran []).replied refl

  pub runs-granted : (asked : Option (ℕ × ℕ)) → ((h : Home) (need : Need) → IsGranted (gives h need).reply) → GivesAll
      → OnErr result (region_with after new ≡ region_with before old) → NoneRefused (disc_in meaning before.region) (disc_in meaning after.region) → RunsHome meaning result gives asked before old after new
  runs-granted asked granted step err served = record {
    step = step;
    err = err;
    unserved = λ e. absurd (none-unserved granted step e);
    served = λ _. served;
  }

  -- one for which memory is wanted
  pub runs-halted : (asked : Option (ℕ × ℕ)) → OnOk result ⊥ → region_with after new ≡ region_with before old
      → NoneRefused (disc_in meaning before.region) (disc_in meaning after.region) → RunsHome meaning result gives asked before old after new
  runs-halted asked is same served = record {
    step = halted-all result (λ reply. RunsRegion meaning (λ h. gives h (need_shown reply)) before old (region_with after new) reply) is;
    err = err-all result same;
    unserved = λ e. absurd (halted-not result (Refused why.NoSegment) is e);
    served = λ _. served;
  }

  -- one that asks for no block promises it where one is named, too
  pub runs-any : (asked : ℕ × ℕ) → RunsHome meaning result gives None before old after new → RunsHome meaning result gives (Some asked) before old after new
  runs-any asked runs = record { step = runs.step; err = runs.err; unserved = λ e. absurd (runs.unserved e); served = runs.served }

-- a command that is none of the four on blocks puts no block
pub other-block : (command : Command)
    → ((r x : List ℕ) (size : ℕ) (site : Option (List ℕ)) → command ≡ Alloc r x size site → ⊥)
    → ((r x : List ℕ) (size align : ℕ) → command ≡ Align r x size align → ⊥)
    → ((r x : List ℕ) (size : ℕ) (may_move : Bool) → command ≡ Resize r x size may_move → ⊥)
    → ((r x : List ℕ) → command ≡ Free r x → ⊥)
    → puts_block command ≡ false
other-block (Alloc r x size site) n0 n1 n2 n3 = absurd (n0 r x size site refl)
other-block (Align r x size align) n0 n1 n2 n3 = absurd (n1 r x size align refl)
other-block (Resize r x size may_move) n0 n1 n2 n3 = absurd (n2 r x size may_move refl)
other-block (Free r x) n0 n1 n2 n3 = absurd (n3 r x refl)
other-block command n0 n1 n2 n3 = refl

-- a command that is none on a region is refused
pub other-region : (h : Home) (line : ℕ) (command : Command) (need : Need) → puts_block command ≡ false
    → ((r : List ℕ) → command ≡ ClearRegion r → ⊥)
    → ((r : List ℕ) → command ≡ Compact r → ⊥)
    → ((r x : List ℕ) (off : ℕ) (bytes : List ℕ) → command ≡ WriteBlock r x off bytes → ⊥)
    → ((r x : List ℕ) (off len : ℕ) → command ≡ ReadBlock r x off len → ⊥)
    → ((r x : List ℕ) → command ≡ SizeOf r x → ⊥)
    → ((r : List ℕ) (at : Place) → command ≡ AddrOf r at → ⊥)
    → ((r : List ℕ) (at : Place) → command ≡ SegmentOf r at → ⊥)
    → ((r : List ℕ) → command ≡ StatOf r → ⊥)
    → ((r : List ℕ) → command ≡ Segments r → ⊥)
    → ((r : List ℕ) → command ≡ Blocks r → ⊥)
    → ((r x : List ℕ) (off : ℤ) (byte : ℕ) → command ≡ Poke r x off byte → ⊥)
    → ((r : List ℕ) → command ≡ Check r → ⊥)
    → ((r x : List ℕ) → command ≡ Watch r x → ⊥)
    → ((r : List ℕ) → command ≡ ProfileOf r → ⊥)
    → in_region h line command need ≡ refusal_alone h why.NoRegion
other-region h line (ClearRegion r) need is n0 n1 n6 n7 n8 n9 na nb nc nd ne nf ng nh = absurd (n0 r refl)
other-region h line (Compact r) need is n0 n1 n6 n7 n8 n9 na nb nc nd ne nf ng nh = absurd (n1 r refl)
other-region h line (Alloc r x size site) need is n0 n1 n6 n7 n8 n9 na nb nc nd ne nf ng nh = absurd (true≢false is)
other-region h line (Align r x size align) need is n0 n1 n6 n7 n8 n9 na nb nc nd ne nf ng nh = absurd (true≢false is)
other-region h line (Resize r x size may_move) need is n0 n1 n6 n7 n8 n9 na nb nc nd ne nf ng nh = absurd (true≢false is)
other-region h line (Free r x) need is n0 n1 n6 n7 n8 n9 na nb nc nd ne nf ng nh = absurd (true≢false is)
other-region h line (WriteBlock r x off bytes) need is n0 n1 n6 n7 n8 n9 na nb nc nd ne nf ng nh = absurd (n6 r x off bytes refl)
other-region h line (ReadBlock r x off len) need is n0 n1 n6 n7 n8 n9 na nb nc nd ne nf ng nh = absurd (n7 r x off len refl)
other-region h line (SizeOf r x) need is n0 n1 n6 n7 n8 n9 na nb nc nd ne nf ng nh = absurd (n8 r x refl)
other-region h line (AddrOf r at) need is n0 n1 n6 n7 n8 n9 na nb nc nd ne nf ng nh = absurd (n9 r at refl)
other-region h line (SegmentOf r at) need is n0 n1 n6 n7 n8 n9 na nb nc nd ne nf ng nh = absurd (na r at refl)
other-region h line (StatOf r) need is n0 n1 n6 n7 n8 n9 na nb nc nd ne nf ng nh = absurd (nb r refl)
other-region h line (Segments r) need is n0 n1 n6 n7 n8 n9 na nb nc nd ne nf ng nh = absurd (nc r refl)
other-region h line (Blocks r) need is n0 n1 n6 n7 n8 n9 na nb nc nd ne nf ng nh = absurd (nd r refl)
other-region h line (Poke r x off byte) need is n0 n1 n6 n7 n8 n9 na nb nc nd ne nf ng nh = absurd (ne r x off byte refl)
other-region h line (Check r) need is n0 n1 n6 n7 n8 n9 na nb nc nd ne nf ng nh = absurd (nf r refl)
other-region h line (Watch r x) need is n0 n1 n6 n7 n8 n9 na nb nc nd ne nf ng nh = absurd (ng r x refl)
other-region h line (ProfileOf r) need is n0 n1 n6 n7 n8 n9 na nb nc nd ne nf ng nh = absurd (nh r refl)
other-region h line command need is n0 n1 n6 n7 n8 n9 na nb nc nd ne nf ng nh = refl
