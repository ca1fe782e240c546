use Rattle.std.proofs.Common.{◌≡◌, ◌∙◌, rules, sym, ap, subst, ℕ, ◌+◌, ◌-◌, ◌<◌, ◌≤◌, List, ◌++◌, length, drop, slice_range, min, arith}
use Rattle.std.proofs.lemmas.Grind.{common_steps}
use Rattle.http_wire.specs.Chunks.{ReadsChunks}
use Rattle.http_wire.proofs.ChunkLists.{SoFar, so_far_more, so_far_next, so_far_last, so_far_bad, so_far_unfinished, window_split, window_fits, inner, last_within, looks_left, nearer}
use Rattle.http_wire.specs.declared.framing.Framing.TheVariants as framing
use Rattle.http_wire.proofs.ReplyFacts.{body_but_after}
use Rattle.http_wire.proofs.Whole.{used_twice}
use Rattle.http_wire.proofs.chunked.read_chunks.Goals as goal

pub chunks-preserved-in-Chunk : goal.chunks-preserved-in-Chunk
chunks-preserved-in-Chunk g c =
    let there : length c.as_slice-there.result.now ≡ length c.chunks.kept = ap length c.as_slice-there.ensures in
    let inside : c.chunks.at ≤ length c.chunks.kept = c.chunks.invariant.so_far.inside in
    let most : c.chunks.at ≤ c.args.head + 4194304 = c.chunks.invariant.most in
    let to = c.min.result in
    let bound : to ≡ min (length c.as_slice-there.result.now) (c.args.head + 4194304) = c.min.ensures in
    let reach : c.chunks.at ≤ to = omega arith in
    let window = slice_range c.as_slice.result.now c.chunks.at to in
    let x = drop to c.chunks.kept in
    let split = window_split c.chunks.kept c.as_slice.result.now c.chunks.at to c.as_slice.ensures reach in
    let chunk = c.in-Chunk.ensures in
    let fits : c.in-Chunk.next ≤ length window = chunk.inside in
    let before : c.in-Chunk.to < c.in-Chunk.next = chunk.before in
    let far = window_fits c.as_slice.result.now c.chunks.at to reach in
    let part = inner c.chunks.kept c.as_slice-in-Chunk.result.now c.as_slice.result.now c.chunks.at to c.in-Chunk.from c.in-Chunk.to c.as_slice-in-Chunk.ensures c.as_slice.ensures chunk.ordered (omega arith) in
    let grown : c.extend_from_slice.new.self.items ≡ c.chunks.body.items ++ slice_range c.as_slice-in-Chunk.result.now (c.chunks.at + c.in-Chunk.from) (c.chunks.at + c.in-Chunk.to) =
    first_of (search rules, grind (arith, common_steps)) in
    let whole = grown ∙ ap (λ part. c.chunks.body.items ++ part) part in
    record {
      used = c.chunks.invariant.used;
      later = c.chunks.invariant.later;
      so_far = subst (λ (body : List ℕ). SoFar c.chunks.kept body c.args.head (c.chunks.at + c.in-Chunk.next)) (sym whole)
          (so_far_next c.chunks.kept window x c.chunks.body.items c.args.head c.chunks.at c.in-Chunk.from c.in-Chunk.to c.in-Chunk.next split c.chunks.invariant.so_far chunk);
      most = omega arith;
      ended = c.chunks.invariant.ended;
    }

pub returns-in-Last-clause-body : goal.returns-in-Last-clause-body
returns-in-Last-clause-body g c =
    let there : length c.as_slice-there.result.now ≡ length c.chunks.kept = ap length c.as_slice-there.ensures in
    let inside : c.chunks.at ≤ length c.chunks.kept = c.chunks.invariant.so_far.inside in
    let most : c.chunks.at ≤ c.args.head + 4194304 = c.chunks.invariant.most in
    let to = c.min.result in
    let bound : to ≡ min (length c.as_slice-there.result.now) (c.args.head + 4194304) = c.min.ensures in
    let reach : c.chunks.at ≤ to = omega arith in
    let window = slice_range c.as_slice.result.now c.chunks.at to in
    let x = drop to c.chunks.kept in
    let split = window_split c.chunks.kept c.as_slice.result.now c.chunks.at to c.as_slice.ensures reach in
    let next = c.in-Last.field-0 in
    let far = window_fits c.as_slice.result.now c.chunks.at to reach in
    let last = so_far_last c.chunks.kept window x c.chunks.body.items c.args.head c.chunks.at next split c.chunks.invariant.so_far c.in-Last.ensures.0 in (
      c.chunks.invariant.used,
      record {
        rest = drop next window ++ x;
        reads = subst (λ (body : List ℕ). ReadsChunks (drop c.args.head c.chunks.kept) body (drop next window ++ x)) (sym c.from_vec.ensures) last;
        within = last_within c.chunks.kept window x c.args.head c.chunks.at next 4194304 split c.in-Last.ensures.1 (omega arith) inside;
        ended = tt;
      },
    )

pub returns-in-Bad-clause-body : goal.returns-in-Bad-clause-body
returns-in-Bad-clause-body g c =
    let there : length c.as_slice-there.result.now ≡ length c.chunks.kept = ap length c.as_slice-there.ensures in
    let inside : c.chunks.at ≤ length c.chunks.kept = c.chunks.invariant.so_far.inside in
    let most : c.chunks.at ≤ c.args.head + 4194304 = c.chunks.invariant.most in
    let to = c.min.result in
    let bound : to ≡ min (length c.as_slice-there.result.now) (c.args.head + 4194304) = c.min.ensures in
    let reach : c.chunks.at ≤ to = omega arith in
    let window = slice_range c.as_slice.result.now c.chunks.at to in
    let x = drop to c.chunks.kept in
    let split = window_split c.chunks.kept c.as_slice.result.now c.chunks.at to c.as_slice.ensures reach in
    let far = window_fits c.as_slice.result.now c.chunks.at to reach in
    (c.chunks.invariant.used, there, so_far_bad c.chunks.kept window x c.chunks.body.items c.args.head c.chunks.at 4194304 split (omega arith) c.chunks.invariant.so_far c.in-Bad.ensures)

pub go_on-requires-clause-unfinished : goal.go_on-requires-clause-unfinished
go_on-requires-clause-unfinished g c =
    let there : length c.as_slice-there.result.now ≡ length c.chunks.kept = ap length c.as_slice-there.ensures in
    let bound : c.min.result ≡ min (length c.as_slice-there.result.now) (c.args.head + 4194304) = c.min.ensures in
    let to : c.min.result ≡ min (length c.chunks.kept) (c.args.head + 4194304) = omega arith in
    so_far_unfinished c.chunks.kept c.as_slice.result.now c.chunks.body.items c.args.head c.chunks.at c.min.result 4194304 c.as_slice.ensures c.chunks.invariant.most to
    c.chunks.invariant.so_far c.in-More.ensures

pub chunks-preserved : goal.chunks-preserved
chunks-preserved g c =
    let more = c.in-Ok.ensures.goes in
    let later : g.S.Source.faults c.args.source.now ≤ g.S.Source.faults c.chunks.source = c.chunks.invariant.later in
    let then : g.S.Source.faults c.chunks.source ≤ g.S.Source.faults c.go_on.new.source = c.in-Ok.ensures.later in
    record {
      used = used_twice _ _ _ _ _ _ c.chunks.invariant.used more.0;
      later = omega arith;
      so_far = so_far_more c.chunks.kept c.go_on.new.kept more.0.given c.chunks.body.items c.args.head c.chunks.at (sym more.0.whole) c.chunks.invariant.so_far;
      most = c.chunks.invariant.most;
      ended = more.3;
    }

pub returns-in-Err-clause-body : goal.returns-in-Err-clause-body
returns-in-Err-clause-body g c =
    body_but_after c.in-Err.fault framing.Chunked c.args.head _ _ _ _ _ _ _ _ _ c.chunks.invariant.later c.chunks.invariant.used c.in-Err.ensures.goes

pub chunks-smaller : goal.chunks-smaller
chunks-smaller g c =
    let more = c.in-Ok.ensures.goes in
    let end = c.args.head + 4194304 in
    let near : ((end + 1) - length c.go_on.new.kept) + looks_left c.in-Ok.now < ((end + 1) - length c.chunks.kept) + looks_left c.chunks.ended =
    nearer (length c.chunks.kept) (length c.go_on.new.kept) end c.chunks.ended c.in-Ok.now c.in-Ok.ensures.before c.in-Ok.ensures.room more.1 more.2 in
    omega arith
