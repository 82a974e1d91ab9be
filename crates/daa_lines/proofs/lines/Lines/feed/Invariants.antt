use Rattle.std.proofs.Common.{◌≡◌, ◌+◌, ◌++◌, ℕ, List, take, drop, false}
use Rattle.daa_lines.specs.LinesState.{is_standing}
use Rattle.daa_lines.specs.Feeding.{bytes_taken}
use Rattle.daa_lines.specs.ComesFrom.{ComesFrom}
use Rattle.daa_lines.proofs.lines.Lines.feed.Given as goal

abbrev pub invariant-loop-i : goal.invariant-loop-i
invariant-loop-i l = record {
  free : is_standing l.self.stage ≡ false;
  going : l.self.ended ≡ false;
  fed : l.self.fed ≡ l.fn.self.fed + l.i;
  number : l.self.number ≡ l.fn.self.number;
  taken : bytes_taken l.fn.self.stage l.fn.self.line l.piece ≡ l.i + bytes_taken l.self.stage l.self.line (drop l.i l.piece);
  kept : (bytes : List ℕ) (taken : List (List ℕ)) → ComesFrom bytes taken l.fn.self → ComesFrom (bytes ++ take l.i l.piece) taken l.self;
}
