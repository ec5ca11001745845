-- What is told of a line that is wrong.
use Rattle.std.specs.Prelude.{ℕ, List, codes}
use Rattle.vc_script.specs.declared.line_fault.LineFault.{LineFault}
use Rattle.vc_script.specs.declared.line_fault.LineFault.TheVariants.{UnknownCommand, WordCount, BadName, BadNumber, BadAddress, BadBytes, UnknownMethod, LineTooLong, TooManyLines, UnknownVersion}

abbrev pub fault_text : LineFault → List ℕ
fault_text UnknownCommand = codes "unknown command"
fault_text WordCount = codes "wrong number of words"
fault_text BadName = codes "bad name"
fault_text BadNumber = codes "bad number"
fault_text BadAddress = codes "bad address"
fault_text BadBytes = codes "bad bytes"
fault_text UnknownMethod = codes "unknown method or mode"
fault_text LineTooLong = codes "line too long"
fault_text TooManyLines = codes "too many lines"
fault_text UnknownVersion = codes "unknown version"
