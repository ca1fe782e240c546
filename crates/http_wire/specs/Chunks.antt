-- The body of a reply that comes in chunks (RFC 9112, section 7.1).
use Rattle.std.specs.Prelude.{◌≡◌, ◌≢◌, ℕ, ◌+◌, ◌<◌, ◌≤◌, true, List, [], ◌∷◌, ◌++◌, length, drop, slice_range}
use Rattle.httparse.specs.Grammar.{ChunkLine, IsChunkLine, ReadsChunkLine, print_chunk_line, chunk_size}
use Rattle.http_wire.specs.EmptyLine.{ends_empty_line, NoEmptyLine}
use Rattle.http_wire.specs.declared.step.Step.{Step}
use Rattle.http_wire.specs.declared.step.Step.TheVariants as step

-- a chunk: the line that gives its length, and its data
pub record Chunk : Type 0 where
  pub line : ChunkLine
  pub content : List ℕ

-- the line gives the length of the data, and there is data
pub record IsChunk (c : Chunk) : Type 0 where
  pub line : IsChunkLine c.line
  pub size : chunk_size c.line ≡ length c.content
  pub some : length c.content ≢ 0

-- chunk-size [ chunk-ext ] CRLF chunk-data CRLF, and what follows
abbrev pub with_chunk : Chunk → List ℕ → List ℕ
with_chunk c more = print_chunk_line c.line ++ (c.content ++ (13 ∷ 10 ∷ more))

-- the line of the last chunk, of length 0, and the lines after it up to and with the first empty one, which ends
-- at this place; the rest follows
pub record EndsChunks (bytes rest : List ℕ) : Type 0 where
  pub line : ChunkLine
  pub reads : ReadsChunkLine bytes line (drop (length (print_chunk_line line)) bytes)
  pub zero : chunk_size line ≡ 0
  pub at : ℕ
  pub beyond : length (print_chunk_line line) ≤ at
  pub inside : at < length bytes
  pub ends : ends_empty_line bytes at ≡ true
  pub first : NoEmptyLine bytes (length (print_chunk_line line)) at
  pub left : rest ≡ drop (at + 1) bytes

-- the bytes are these chunks, the last one's line and the lines after it, and then the rest; the data is the body
abbrev pub AreChunks : List Chunk → List ℕ → List ℕ → List ℕ → Type 0
AreChunks [] bytes body rest = EndsChunks bytes rest × (body ≡ [])
AreChunks (c ∷ cs) bytes body rest =
    (more : List ℕ) × (tail : List ℕ) × IsChunk c × (bytes ≡ with_chunk c more) × (body ≡ c.content ++ tail) × AreChunks cs more tail rest

-- the bytes begin with chunks whose data is the body, and the rest follows
abbrev pub ReadsChunks : List ℕ → List ℕ → List ℕ → Type 0
ReadsChunks bytes body rest = (cs : List Chunk) × AreChunks cs bytes body rest

-- the bytes are no whole chunked body, and more can follow that make them one
pub record AreUnfinishedChunks (bytes : List ℕ) : Type 0 where
  pub short : (body rest : List ℕ) → ¬ (ReadsChunks bytes body rest)
  pub more : List ℕ
  pub body : List ℕ
  pub rest : List ℕ
  pub whole : ReadsChunks (bytes ++ more) body rest

-- the bytes begin with a chunk, whose data lies there and which ends there
pub record BeginsChunk (bytes : List ℕ) (from to next : ℕ) : Type 0 where
  pub chunk : Chunk
  pub is_chunk : IsChunk chunk
  pub whole : bytes ≡ with_chunk chunk (drop next bytes)
  pub content : chunk.content ≡ slice_range bytes from to
  pub ordered : from ≤ to
  pub before : to < next
  pub inside : next ≤ length bytes

-- what stands first in these bytes
abbrev pub BeginsChunks : List ℕ → Step → Type 0
BeginsChunks bytes (step.Chunk from to next) = BeginsChunk bytes from to next
BeginsChunks bytes (step.Last next) = EndsChunks bytes (drop next bytes) × (next ≤ length bytes)
BeginsChunks bytes step.Bad = (more body rest : List ℕ) → ¬ (ReadsChunks (bytes ++ more) body rest)
BeginsChunks bytes (step.More want) = AreUnfinishedChunks bytes
