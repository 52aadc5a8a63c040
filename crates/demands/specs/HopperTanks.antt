-- What change request 7 asks of tanks that are not rectangles, sentence by sentence.
use Rattle.std.specs.Prelude.{◌≡◌, true, false, List, map, ℕ, ◌+◌, ◌*◌, ◌^◌, ◌≤◌, pos, nat_abs, ◌*ℤ◌, length, replicate, Ok}
use Rattle.arithmetic.specs.Rounding.{rounded_up}
use Rattle.arithmetic.specs.Signed.{is_negative}
use Rattle.hoppers.specs.Hopper.{MakesSurface}
use Rattle.hoppers.specs.Surface.{A, numerator}
use Rattle.hoppers.specs.declared.FreeSurface.{FreeSurface}
use Rattle.loading.specs.Load.{Tank}
use Rattle.loading.specs.Paper.{paper_rules, slack, rectangle}
use Rattle.loading.specs.Rules.{surface_of}
use Rattle.loading.specs.declared.Reading.{Reading}
use Rattle.demands.specs.Answering.{Answer, RefusedWith}
use Rattle.demands.specs.Limits.{NoneAbove, FirstAbove}

-- unequal tables or a wrong count are refused first: as many widths to port as to starboard, at 2 to 10 intervals
pub record Counted (port starboard : List ℕ) : Type 0 where
  pub as_many : length port ≡ length starboard
  pub enough : 3 ≤ length port
  pub not_too_many : length port ≤ 11

-- "Refusals: 7 at 0 for unequal tables or a wrong count, then 4 in order of p, q, h and density, place the position from 0."
pub record InOrder {port starboard : List ℕ} {h density : ℕ} {answer : Answer FreeSurface} (made : MakesSurface port starboard h density answer) : Type 0 where
  pub seven_at_0 : (Counted port starboard → ⊥) → RefusedWith 7 0 answer
  pub port_first : Counted port starboard → (i : ℕ) → FirstAbove 1_500 port i → RefusedWith 4 i answer
  pub then_starboard : Counted port starboard → NoneAbove 1_500 port → (i : ℕ) → FirstAbove 1_500 starboard i → RefusedWith 4 (length port + i) answer
  pub then_interval : Counted port starboard → NoneAbove 1_500 port → NoneAbove 1_500 starboard → ((50 ≤ h) × (h ≤ 1_000) → ⊥) → RefusedWith 4 (length port + length starboard) answer
  pub then_density : Counted port starboard → NoneAbove 1_500 port → NoneAbove 1_500 starboard → (50 ≤ h) × (h ≤ 1_000) → ((1 ≤ density) × (density ≤ 1_500) → ⊥) → RefusedWith 4 (length port + length starboard + 1) answer
  pub else_found : Counted port starboard → NoneAbove 1_500 port → NoneAbove 1_500 starboard → (50 ≤ h) × (h ≤ 1_000) → (1 ≤ density) × (density ≤ 1_500) → (s : FreeSurface) × (answer ≡ Ok s)

pub record HopperTanks : Type 0 where
  pub refused_in_order : {port starboard : List ℕ} {h density : ℕ} {answer : Answer FreeSurface} (made : MakesSurface port starboard h density answer) → InOrder made
  -- "The inertia about the surface's own centre is (4·A·I − 3·M²)/(288·A), rounded up, times h; the moment is that times liquid density / 1,000,000,000, rounded up"
  pub follows_the_formula : {port starboard : List ℕ} {h density : ℕ} {s : FreeSurface} → MakesSurface port starboard h density (Ok s)
      → (s.inertia ≡ rounded_up (nat_abs (numerator port starboard)) (288 * A port starboard) * h) × (s.moment ≡ rounded_up (s.inertia * density) 1_000_000_000)
  -- "with A zero it is 0"
  pub nothing_without_width : {port starboard : List ℕ} {h density : ℕ} {s : FreeSurface} → MakesSurface port starboard h density (Ok s) → A port starboard ≡ 0
      → (s.inertia ≡ 0) × (s.moment ≡ 0)
  -- "Prove that the numerator is never negative": 4·A·I − 3·M² of any widths
  pub numerator_never_negative : (port starboard : List ℕ) → is_negative (numerator port starboard) ≡ false
  -- "and that one width added to every p and taken from every q gives the same inertia while widths stay in range": of two answered calls,
  -- where the second's q with that width added are the first's; and the same moment
  pub middle_line_anywhere : {port starboard port' starboard' : List ℕ} {h density : ℕ} {s s' : FreeSurface} (width : ℕ)
      → MakesSurface port starboard h density (Ok s) → MakesSurface port' starboard' h density (Ok s')
      → port' ≡ map (λ p. p + width) port → starboard ≡ map (λ q. q + width) starboard'
      → (s'.inertia ≡ s.inertia) × (s'.moment ≡ s.moment)
  -- A rectangle of n intervals, wherever the middle line lies: l·b³/12 with l = n·h and b = p+q, exact before rounding (both sides multiplied out), and as it is answered
  pub rectangles_are_exact : (n p q h : ℕ) → 2 ≤ n
      → numerator (replicate (n + 1) p) (replicate (n + 1) q) *ℤ pos (12 * h) ≡ pos (n * h * (p + q) ^ 3 * (288 * A (replicate (n + 1) p) (replicate (n + 1) q)))
  pub rectangles_are_answered : (n p q : ℕ) {h density : ℕ} {s : FreeSurface} → MakesSurface (replicate (n + 1) p) (replicate (n + 1) q) h density (Ok s)
      → s.inertia ≡ rounded_up (n * (p + q) ^ 3) 12 * h
  -- "This is a call of its own; the condition keeps rectangles." A slack tank's rectangle, handed in as widths, has the condition's free surface or 1 kg·mm more
  pub condition_keeps_rectangles : (reading : Reading) → (paper_rules reading).surface ≡ rectangle
  pub never_less_than_the_condition : (n p q : ℕ) {h density : ℕ} {s : FreeSurface} → MakesSurface (replicate (n + 1) p) (replicate (n + 1) q) h density (Ok s)
      → (t : Tank) → slack t ≡ true → t.length ≡ n * h → t.breadth ≡ p + q → t.density ≡ density
      → (surface_of rectangle t ≤ s.moment) × (s.moment ≤ surface_of rectangle t + 1)
