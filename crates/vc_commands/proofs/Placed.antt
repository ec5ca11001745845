-- A command that puts a new block under a name in an open region.
use Rattle.vc_base.proofs.Common.{◌≡◌, ℕ, ◌≤◌, Bool, false, List, [], IfSome, Some, None, Ok, Option, Result, Discipline, HasOut, Outcome, Put, outcome_as}
use Rattle.vc_model.proofs.Keeping.{NoneRefused-same}
use Rattle.vc_base.specs.declared.addr.Addr.{Addr}
use Rattle.vc_region.specs.Cells.{cells_in, rest_in}
use Rattle.vc_region.specs.Parts.{disc_in, region_of}
use Rattle.vc_region.specs.Region.{Region, keeps_freed, region_need, region_with_labels, segments_of}
use Rattle.vc_region.specs.declared.region.Region.{Region as Open}
use Rattle.vc_seg.specs.Answer.{Asks, IsPut}
use Rattle.vc_seg.specs.declared.fault.RegionFault.{RegionFault}
use Rattle.vc_script.specs.Needs.{need_shown}
use Rattle.vc_script.specs.declared.refusal.Refusal.{Refusal}
use Rattle.vc_script.specs.declared.reply.Reply.{Reply}
use Rattle.vc_script.specs.declared.reply.Reply.TheVariants.{Refused}
use Rattle.vc_commands.specs.Blocks.{put_new}
use Rattle.vc_commands.specs.Held.{Held, AreLabelsOf, home_of}
use Rattle.vc_commands.specs.Home as home
use Rattle.vc_commands.specs.Home.{Home}
use Rattle.vc_commands.specs.Labels.{AreLabels, SameLabels, label_at}
use Rattle.vc_commands.specs.Naming.{NamesPut, new_refused}
use Rattle.vc_commands.specs.RegionCommands.{is_for_block}
use Rattle.vc_commands.specs.RegionRun.{ChangesRegion, RunsHome, held_of, region_with}
use Rattle.vc_commands.specs.declared.region.home.HomeEntry.{HomeEntry}
use Rattle.vc_commands.specs.declared.region.labels.Labels.{Labels}
use Rattle.vc_commands.proofs.Answers.{both-same, change-same, gives-unchanged, if_ok-all, none-no_segment, put-served}
use Rattle.vc_commands.proofs.Names.{labels_of-same, relabelled-same}
use Rattle.vc_commands.proofs.PutBlocks.{IsOther, Putting, change-put, err-put, put_new-refused, refused-other, step-put, unserved-put}
use Rattle.vc_commands.proofs.Seen.{SeenPut, seen-asks}

-- it is refused before a place is looked for
pub refused-runs : {I : Type 0} {V : I → Type 0} {E : Type 0} (meaning : (x : I) × V x → Discipline) (entry : HomeEntry I V) (labels : Labels) (x : List ℕ) (words : Home → Option Refusal) (called : Home → Bool → Outcome (Put (Region home.Label))) (asked : Option (ℕ × ℕ)) (refusal : Refusal)
    → AreLabelsOf (rest_in entry.region) labels → ((r : List ℕ) → IfSome (words (home_of (held_of meaning r entry labels))) IsOther) → ((r : List ℕ) → new_refused labels x (words (home_of (held_of meaning r entry labels))) ≡ Some refusal)
    → RunsHome meaning (let told : Result Reply E = Ok (Refused refusal) in told) (λ k need. put_new k x (words k) (called k (is_for_block need))) asked entry labels entry labels
refused-runs meaning entry labels x words called asked refusal names other is = record {
  step = λ r.
      let h = held_of meaning r entry labels in
      let outcome = called (home_of h) (is_for_block (need_shown (Refused refusal))) in
      gives-unchanged (home_of h) (put_new (home_of h) x (words (home_of h)) outcome) refusal (put_new-refused h x (words (home_of h)) outcome refusal names (is r));
  err = tt;
  unserved = λ e. absurd (none-no_segment refusal (refused-other labels x (words (home_of (held_of meaning [] entry labels))) refusal (other []) (is [])) e);
  served = λ _. NoneRefused-same _;
}

-- room for its name changes nothing else
module _ {I : Type 0} {V : I → Type 0} (meaning : (x : I) × V x → Discipline) (entry : HomeEntry I V) {old new : Labels} (same : SameLabels old new) where
  pub reserved-with : region_with entry new ≡ region_with entry old
  reserved-with = both-same _ _ _ _ (relabelled-same old new (rest_in entry.region) same) same.kept

  pub reserved-change : AreLabels new → AreLabelsOf (rest_in entry.region) old → HasOut (disc_in meaning entry.region) (segments_of (rest_in entry.region)) → ChangesRegion meaning entry old entry new
  reserved-change agree names lent = λ r.
      let h = held_of meaning r entry old in
      change-same h new lent (labels_of-same h.region old new same agree names)

-- it is put, or a fault is told: the call on a home and the call on the region, the labels with room for the name and those after, and what is answered
pub record IsPlaced {I : Type 0} {V : I → Type 0} {E : Type 0} (meaning : (x : I) × V x → Discipline) (entry : HomeEntry I V) (labels : Labels) (is : Open I V) (x : List ℕ) (words : Home → Option Refusal)
    (called : Home → Bool → Outcome (Put (Region home.Label))) (call : Bool → Outcome (Put (Region ℕ))) (tag size align : ℕ) (mid new : Labels) (put : Result Addr RegionFault) (result : Result Reply E) : Type 0 where
  pub names : AreLabelsOf (rest_in entry.region) labels
  pub allowed : (r : List ℕ) → new_refused labels x (words (home_of (held_of meaning r entry labels))) ≡ None
  pub same : SameLabels labels mid
  pub agree : AreLabels mid
  pub first : 1 ≤ tag
  pub vacant : label_at mid tag ≡ None
  pub commutes : (r : List ℕ) (f : ℕ → home.Label) → f tag ≡ Some x → region_with_labels f (rest_in entry.region) ≡ (home_of (held_of meaning r entry labels)).region → (refused : Bool) → called (home_of (held_of meaning r entry labels)) refused ≡ outcome_as (region_with_labels f) (call refused)
  pub stays : (a : ℕ) (r' : Region ℕ) → IsPut (call false) a r' → keeps_freed r' ≡ keeps_freed (rest_in entry.region)
  pub named : NamesPut tag x put mid new result
  pub seen : SeenPut call put (region_of entry.region) (region_of is) tag size
  pub asks : Asks put (disc_in meaning entry.region) (disc_in meaning is) (segments_of (region_of entry.region)) (segments_of (region_of is)) (region_need (disc_in meaning entry.region).terms (region_of entry.region) size align)

module _ {I : Type 0} {V : I → Type 0} {E : Type 0} {meaning : (x : I) × V x → Discipline} {entry : HomeEntry I V} {labels : Labels} {is : Open I V} {x : List ℕ} {words : Home → Option Refusal}
    {called : Home → Bool → Outcome (Put (Region home.Label))} {call : Bool → Outcome (Put (Region ℕ))} {tag size align : ℕ} {mid new : Labels} {put : Result Addr RegionFault} {result : Result Reply E}
    (p : IsPlaced meaning entry labels is x words called call tag size align mid new put result) where
  abbrev held : List ℕ → Held
  held r = held_of meaning r entry labels

  abbrev disc : Discipline
  disc = disc_in meaning is

  abbrev need : ℕ
  need = region_need (disc_in meaning entry.region).terms (rest_in entry.region) size align

  abbrev putting : (r : List ℕ) → Putting (held r) x (words (home_of (held r)))
  putting r = record {
    names = p.names;
    allowed = p.allowed r;
    mid = mid;
    same = p.same;
    agree = p.agree;
    tag = tag;
    first = p.first;
    vacant = p.vacant;
    call = call;
    called = called (home_of (held r));
    commutes = p.commutes r;
    stays = p.stays;
  }

  asked : Asks put (disc_in meaning entry.region) disc (segments_of (rest_in entry.region)) (segments_of (rest_in is)) need
  asked = seen-asks put (disc_in meaning entry.region) disc (region_of entry.region) (region_of is) size align p.asks

  pub placed-runs : RunsHome meaning result (λ k wanted. put_new k x (words k) (called k (is_for_block wanted))) (Some (size, align)) entry labels (record entry { region = is }) new
  placed-runs = record {
    step = if_ok-all result _ (λ r. step-put (held r) x (words (home_of (held r))) (putting r) (rest_in is) new put result p.named p.seen.answer);
    err = err-put (held []) x (words (home_of (held []))) (putting []) (rest_in is) new put result p.named p.seen.answer;
    unserved = λ e. unserved-put (held []) x (words (home_of (held []))) (putting []) (rest_in is) new disc need size put result p.named asked e;
    served = λ other. put-served tag x put mid new result _ _ _ _ _ p.named p.asks other;
  }

  pub placed-change : HasOut (disc_in meaning entry.region) (segments_of (rest_in entry.region)) → ChangesRegion meaning entry labels (record entry { region = is }) new
  placed-change lent = λ r.
      change-put (held r) x (words (home_of (held r))) (putting r) (rest_in is) new disc need size put result p.named p.seen.answer asked
      p.seen.there p.seen.others p.seen.places lent (cells_in is) p.seen.cells
