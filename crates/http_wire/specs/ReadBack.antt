-- How what is written is read.
use Rattle.std.specs.Prelude.{◌≡◌, ℕ, true, List, [], ◌∷◌, ◌++◌, map, codes, decimal, Option, Some, None, Result, Ok, Err}
use Rattle.httparse.specs.Grammar.{trim_ows}
use Rattle.cache_terms.specs.declared.events.Reply.{Reply}
use Rattle.http_wire.specs.declared.faults.WireFault.{WireFault}
use Rattle.http_wire.specs.declared.message.Field.{Field}
use Rattle.http_wire.specs.declared.message.Message.{Message}
use Rattle.http_wire.specs.declared.response.Response.{Response}
use Rattle.http_wire.specs.Answers.{GivesMessage, IsInside}
use Rattle.http_wire.specs.Framings.{text_or_mark}
use Rattle.http_wire.specs.Heads.{HeadSays, kept_field}
use Rattle.http_wire.specs.Messages.{IsMessageOf}
use Rattle.http_wire.specs.ReplyAnswers.{MayAnswer, IsSettled}

-- a field, as it is written
abbrev pub written : List ℕ → List ℕ → Field
written name value = record { name = name; value = value }

-- a field, as it is read: its name in lower case, its value without the white space around it
abbrev pub read_field : Field → Field
read_field f = kept_field (f.name, trim_ows f.value)

-- the field that carries the caller's id, where there is one
abbrev pub id_fields : Option Field → List Field
id_fields None = []
id_fields (Some f) = f ∷ []

-- the fields of a call of a subgraph
abbrev pub call_fields : List ℕ → Option Field → ℕ → List Field
call_fields host id count =
    written (codes "host") host
    ∷ (written (codes "content-type") (codes "application/json")
    ∷ (written (codes "accept") (codes "application/json")
    ∷ (id_fields id
    ++ (written (codes "content-length") (decimal count)
    ∷ (written (codes "connection") (codes "close") ∷ [])))))

-- what the head of a call says
abbrev pub call_says : List ℕ → List ℕ → Option Field → ℕ → HeadSays
call_says path host id count = record {
  method = codes "POST";
  target = path;
  fields = map read_field (call_fields host id count);
  close = true;
  length = count;
}

-- the answer is the message that this head and this body make
abbrev pub IsTheMessage : HeadSays → List ℕ → Result (Option Message) WireFault → Type 0
IsTheMessage o body (Ok (Some m)) = IsMessageOf m o × (m.body ≡ body)
IsTheMessage o body (Ok None) = ⊥
IsTheMessage o body (Err e) = ⊥

-- whatever follows these bytes, they are read as one message, that of this head and this body, and what follows is
-- left for the next one
abbrev pub AreOneMessage : List ℕ → HeadSays → List ℕ → Type 0
AreOneMessage bytes o body =
    (more rest : List ℕ) (answer : Result (Option Message) WireFault)
    → IsInside answer → GivesMessage (bytes ++ more) answer rest → IsTheMessage o body answer × (rest ≡ more)

-- a text, as it is read: without the white space around it
abbrev pub read_text : Option (List ℕ) → Option (List ℕ)
read_text None = None
read_text (Some text) = Some (text_or_mark (trim_ows text))

-- the reply has the response's status, Cache-Control and body, and no Age
pub record Repeats (reply : Reply) (r : Response) : Type 0 where
  pub status : reply.status ≡ r.status
  pub cache_control : reply.cache_control ≡ read_text r.cache_control
  pub age : reply.age ≡ None
  pub body : reply.body ≡ r.body

abbrev pub IsTheReply : Response → Result Reply WireFault → Type 0
IsTheReply r (Ok reply) = Repeats reply r
IsTheReply r (Err e) = ⊥

-- whatever follows these bytes, they are read as a reply that repeats the response
abbrev pub AreItsReply : List ℕ → Response → Type 0
AreItsReply bytes r =
    (more : List ℕ) (answer : Result Reply WireFault)
    → IsSettled answer → MayAnswer (bytes ++ more) answer → IsTheReply r answer
