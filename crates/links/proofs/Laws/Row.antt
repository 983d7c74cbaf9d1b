-- What a row's settings say of its width and of delays. Assumes nothing.
use Rattle.std.proofs.Common.{◌≤◌, arith}
use Rattle.settings.proofs.Laws.Settings.{limits}
use Rattle.links.specs.declared.Row.{Row}

pub record Bounds (r : Row) : Type 0 where
  pub wide : 6 ≤ r.width
  pub narrow : r.width ≤ 256
  pub uncertainty : r.settings.uncertainty ≤ r.settings.delay
  pub delay : r.settings.delay ≤ 1000000

pub bounds : (r : Row) → Bounds r
bounds r =
    let k = limits r.settings r.checked in
    record {
      wide = omega (arith, k.width, r.wide);
      narrow = omega (arith, k.width, r.wide);
      uncertainty = k.uncertainty;
      delay = k.delay.1;
    }
