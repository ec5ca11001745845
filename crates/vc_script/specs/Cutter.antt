-- The cutting of an input into lines, a piece at a time.
use Rattle.std.specs.Prelude.{ℕ, ◌+◌, List, [], ◌∷◌, ◌++◌, false, ◌==◌, length, if◌then◌else◌}
use Rattle.vc_script.specs.declared.line_fault.LineFault.TheVariants.{LineTooLong, TooManyLines}
use Rattle.vc_script.specs.declared.cutter.Cut.{Cut}
use Rattle.vc_script.specs.declared.cutter.Cut.TheVariants.{Whole, More, Bad}
use Rattle.vc_script.specs.Lines.{without_cr}
use Rattle.vc_script.specs.Judged.{line_limit, last_number}
use Rattle.vc_script.specs.Cutting.{Cutting}

-- the state after a call of feed, its answer, and how many bytes it took
pub record Fed : Type 0 where
  pub after : Cutting
  pub cut : Cut
  pub used : ℕ

-- the bytes kept are a whole line
abbrev pub with_whole_line : Cutting → Cutting
with_whole_line s = record { kept = []; count = s.count + 1; line = without_cr s.kept; is_open = s.is_open }

-- no call of feed or end may follow
abbrev pub closed_cutting : Cutting → Cutting
closed_cutting s = record { kept = s.kept; count = s.count; line = s.line; is_open = false }

abbrev pub with_byte : Cutting → ℕ → Cutting
with_byte s b = record { kept = s.kept ++ b ∷ []; count = s.count; line = s.line; is_open = s.is_open }

-- one byte more was taken
abbrev pub one_more : Fed → Fed
one_more f = record { after = f.after; cut = f.cut; used = f.used + 1 }

-- what feed does: it takes the bytes up to and with the first newline, or the byte that shows a fault
abbrev pub result_of_feed : Cutting → List ℕ → Fed
result_of_feed s [] = record { after = s; cut = More; used = 0 }
result_of_feed s (b ∷ bs) =
    if s.count == last_number then record { after = closed_cutting s; cut = Bad TooManyLines; used = 1 }
    else (if b == 10 then record { after = with_whole_line s; cut = Whole; used = 1 }
    else (if length s.kept == line_limit then record { after = closed_cutting s; cut = Bad LineTooLong; used = 1 }
    else one_more (result_of_feed (with_byte s b) bs)))

-- the answer of end: bytes that are kept are a last line
abbrev pub end_cut : List ℕ → Cut
end_cut [] = More
end_cut (b ∷ bs) = Whole

abbrev pub after_end : Cutting → List ℕ → Cutting
after_end s [] = closed_cutting s
after_end s (b ∷ bs) = closed_cutting (with_whole_line s)
