-- Two ownships whose numbers are the same.
use Rattle.std.proofs.Common.{◌≡◌, refl, Bool, true, false, ℤ}
use Rattle.std.specs.Prelude.{◌&&◌}
use Rattle.std.specs.Ordering.{int_eq}
use Rattle.std.proofs.lemmas.Bool.Decides.{Decides-int_eq}
use Rattle.daa_state.specs.declared.word.Own.{Own}

first : (a b : Bool) → (a && b) ≡ true → a ≡ true
first true b h = refl
first false b h = h

rest : (a b : Bool) → (a && b) ≡ true → b ≡ true
rest true b h = h
rest false b h = cc

same : (x y : ℤ) → int_eq x y ≡ true → x ≡ y
same x y h = (Decides-int_eq x y).0 h

all_six : (p q r s t u : Bool) → (p && (q && (r && (s && (t && u))))) ≡ true
    → (p ≡ true) × (q ≡ true) × (r ≡ true) × (s ≡ true) × (t ≡ true) × (u ≡ true)
all_six p q r s t u h =
    let a = rest p (q && (r && (s && (t && u)))) h in
    let b = rest q (r && (s && (t && u))) a in
    let d = rest r (s && (t && u)) b in
    let e = rest s (t && u) d in
    (first p (q && (r && (s && (t && u)))) h, first q (r && (s && (t && u))) a, first r (s && (t && u)) b, first s (t && u) d, first t u e, rest t u e)

pub same_own : (a b : Own)
    → (int_eq a.x b.x && (int_eq a.y b.y && (int_eq a.alt b.alt && (int_eq a.trk b.trk && (int_eq a.gs b.gs && int_eq a.vs b.vs))))) ≡ true → a ≡ b
same_own a b h =
    let all = all_six (int_eq a.x b.x) (int_eq a.y b.y) (int_eq a.alt b.alt) (int_eq a.trk b.trk) (int_eq a.gs b.gs) (int_eq a.vs b.vs) h in
    let x = same a.x b.x all.0 in
    let y = same a.y b.y all.1 in
    let alt = same a.alt b.alt all.2 in
    let trk = same a.trk b.trk all.3 in
    let gs = same a.gs b.gs all.4 in
    let vs = same a.vs b.vs all.5 in
    λ i. record { x = x i; y = y i; alt = alt i; trk = trk i; gs = gs i; vs = vs i }
