-- What is kept while a plan's nodes are read.
use Rattle.std.specs.Prelude.{◌≡◌, ℕ, ◌+◌, ◌≤◌, max, length}
use Rattle.plan_tree.specs.Lawful.{deepest}
use Rattle.plan_book.specs.declared.nodes.Draft.{Draft}
use Rattle.plan_book.specs.Nodes.{SoFar}

abbrev pub so_far : Draft → SoFar
so_far draft = record { nodes = length draft.levels.items; fetches = draft.fetches.items }

-- so many nodes stand around what comes next, and they were noted
pub record StandsInside (draft : Draft) (around : ℕ) : Type 0 where
  pub noted : around ≤ length draft.levels.items
  pub reached : around ≤ deepest draft.levels.items

-- a part was noted around which so many nodes stand, and in which so many stand in one another
pub record Deepens (old new : Draft) (around depth : ℕ) : Type 0 where
  pub deepest_is : deepest new.levels.items ≡ max (deepest old.levels.items) (around + depth)
  pub longer : length old.levels.items ≤ length new.levels.items
