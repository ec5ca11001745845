-- The states between the parts of the worked scripts.
use Rattle.std.specs.Prelude.{ℕ, ◌-◌, List, [], ◌∷◌, ◌++◌, Some, None, true, false, codes, length, replicate}
use Rattle.vc_model.specs.Discipline.{Terms}
use Rattle.vc_model.specs.Layout.{Block}
use Rattle.vc_dtdisc.specs.Shapes.{rules_of}
use Rattle.vc_dtdisc.specs.declared.shape.Shape.TheVariants.{Whole, Field, Text, Fold, Reverse, Clip}
use Rattle.vc_region.specs.Region.{OfBest}
use Rattle.vc_script.specs.declared.tool.Tool.TheVariants.{Vmreplay, Dtrun}
use Rattle.vc_script.specs.Needs.{Need}
use Rattle.vc_session.specs.Run.{Ran, run_from, script}
use Rattle.vc_session.specs.Text.{text_of}
use Rattle.vc_words.specs.declared.words.Words.{Words}
use Rattle.vc_commands.specs.Home.{Label}
use Rattle.vc_steps.specs.State.{State}

-- no word is given
abbrev pub no_words : Words
no_words = record { quiet = false; stat = false; generate = None; seed = 0 }

-- one word is given, `--quiet` or `--stat`
abbrev pub quiet_words : Words
quiet_words = record no_words { quiet = true }

abbrev pub stat_words : Words
stat_words = record no_words { stat = true }

-- `--gen 4 --seed 42`
abbrev pub four_words : Words
four_words = record no_words { generate = Some 4; seed = 42 }

-- what a run writes without words
abbrev pub plain_text : Ran → List ℕ
plain_text r = text_of no_words false 0 r

-- of a discipline that rounds to 4,096 bytes
abbrev pub terms : Terms
terms = record { round = 4096; grows = false }

-- before the first line: a place of the shelf with such a discipline, and no region
abbrev pub at_first : State
at_first = record { shelf = Some terms ∷ []; homes = []; kinds = []; dicts = [] }

-- the same with six kinds: by all bytes, by the text before a zero byte, without regard to case, in reverse order, by the first four bytes, and cut at eight
abbrev pub with_kinds : State
with_kinds =
    record {
      shelf = Some terms ∷ [];
      homes = [];
      kinds =
          rules_of Whole
          ∷ rules_of (Text 0)
          ∷ rules_of Fold
          ∷ rules_of Reverse
          ∷ rules_of (Field 0 4)
          ∷ rules_of (Clip 8)
          ∷ [];
      dicts = [];
    }

-- one region over the discipline of that place
abbrev pub one_region : List ℕ → List (ℕ × ℕ) → List (Block Label) → State
one_region name segments blocks =
    record {
      shelf = None ∷ [];
      homes = record { name = name; place = 1; terms = terms; region = OfBest (record { segments = segments; blocks = blocks }); kept = [] } ∷ [];
      kinds = [];
      dicts = [];
    }

-- a block with these bytes first and zeros behind them
abbrev pub block_with : List ℕ → ℕ → ℕ → ℕ → List ℕ → Block Label
block_with name seg off size first = record { label = Some name; seg = seg; off = off; size = size; bytes = first ++ replicate (size - length first) 0 }

-- a block, and beside it a name that is kept as freed at line 3
abbrev pub with_kept : State
with_kept =
    record {
      shelf = None ∷ [];
      homes =
          record {
            name = codes "r";
            place = 1;
            terms = terms;
            region = OfBest (record { segments = (1, 4096) ∷ []; blocks = block_with (codes "a") 1 32 1 [] ∷ [] });
            kept = (codes "b", 3) ∷ [];
          }
          ∷ [];
      kinds = [];
      dicts = [];
    }

-- a block between a block that was written and one that was freed
abbrev pub gap_behind : State
gap_behind =
    one_region (codes "r") ((1, 4096) ∷ [])
    (block_with (codes "a") 1 32 100 (codes "hello")
    ∷ block_with (codes "c") 1 288 1 []
    ∷ [])

-- a parse: two buffers, two words and two nodes
abbrev pub parsed_state : State
parsed_state =
    one_region (codes "heap") ((1, 4096) ∷ [])
    (block_with (codes "conf") 1 32 512 []
    ∷ block_with (codes "line") 1 576 80 (codes "GET /index")
    ∷ block_with (codes "word1") 1 672 3 []
    ∷ block_with (codes "word2") 1 704 6 []
    ∷ block_with (codes "node1") 1 736 48 []
    ∷ block_with (codes "node2") 1 800 48 []
    ∷ block_with (codes "buf") 1 864 1000 []
    ∷ [])

-- and then the line has moved, the words are gone, and the gap has two others
abbrev pub moved_state : State
moved_state =
    one_region (codes "heap") ((1, 4096) ∷ [])
    (block_with (codes "conf") 1 32 512 []
    ∷ block_with (codes "tok") 1 576 100 []
    ∷ block_with (codes "c") 1 704 16 []
    ∷ block_with (codes "node1") 1 736 48 []
    ∷ block_with (codes "node2") 1 800 48 []
    ∷ block_with (codes "buf") 1 864 1000 []
    ∷ block_with (codes "line") 1 1888 200 (codes "GET /index")
    ∷ [])

-- what a script of regions writes from a state, where no segment is refused
abbrev pub text_from : State → List ℕ → List ℕ
text_from s input = plain_text (run_from s (script Vmreplay input) [])

-- that, and the state that it leaves
abbrev pub part_from : State → List ℕ → List ℕ × State
part_from s input = (text_from s input, (run_from s (script Vmreplay input) []).state)

-- what it writes at first, where segments are refused on these lines
abbrev pub text_refusing : List (ℕ × Need) → List ℕ → List ℕ
text_refusing needs input = plain_text (run_from at_first (script Vmreplay input) needs)

-- what a script of dictionaries writes, where no segment is refused
abbrev pub dicts_text : List ℕ → List ℕ
dicts_text input = plain_text (run_from with_kinds (script Dtrun input) [])
