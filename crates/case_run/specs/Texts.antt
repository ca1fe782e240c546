-- The lines that are written for a request, and for a case that is refused.
use Rattle.std.specs.Prelude.{ℕ, ◌==◌, if◌then◌else◌, List, [], ◌∷◌, ◌++◌, codes, Option, Some, None}
use Rattle.std.specs.Fmt.{decimal}
use Rattle.line_base.specs.declared.line.Call as calls
use Rattle.line_base.specs.Lines.{Entry}
use Rattle.script_lines.specs.Replies.{line_of}
use Rattle.partial_fetch.specs.declared.answer.Answer.{Answer}
use Rattle.case_file.specs.declared.fault.CaseFault.{CaseFault}
use Rattle.case_file.specs.declared.fault.CaseFault.TheVariants as fault
use Rattle.case_file.specs.Parts.{name_of}

-- sent SUBGRAPH BODY
abbrev pub call_text : calls.Call → List ℕ
call_text call = line_of (codes "sent" ∷ call.name ∷ call.body ∷ [])

abbrev pub sent_text : List Entry → List ℕ
sent_text [] = []
sent_text (e ∷ es) = call_text e.call ++ sent_text es

abbrev pub lasting_text : Option (List ℕ) → List ℕ
lasting_text None = []
lasting_text (Some text) = line_of (codes "cache" ∷ text ∷ [])

-- cache TEXT, where the status is 200
abbrev pub cache_text : Answer → List ℕ
cache_text a = if a.status == 200 then lasting_text a.cache_control else []

-- answer STATUS BODY
abbrev pub status_text : Answer → List ℕ
status_text a = line_of (codes "answer" ∷ decimal a.status ∷ a.body ∷ [])

-- what is written for a request: its calls in their order, how long the answer may be kept, and the answer
abbrev pub request_text : List Entry → Answer → List ℕ
request_text sent a = sent_text sent ++ (cache_text a ++ status_text a)

-- what is written for a case that is refused; want of memory is no refusal
abbrev pub refusal_text : CaseFault → List ℕ
refusal_text fault.Json = codes "case refused json\n"
refusal_text (fault.Member m) = codes "case refused member " ++ (name_of m ++ codes "\n")
refusal_text fault.Schema = codes "case refused schema\n"
refusal_text fault.Plans = codes "case refused plans\n"
refusal_text fault.Site = codes "case refused site\n"
refusal_text fault.Memory = []
