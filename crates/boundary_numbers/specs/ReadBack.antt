-- A session that was kept is read back, and no number too large is taken for one inside the limits. Assumes nothing.
use Rattle.std.specs.Prelude.{◌≡◌, refl, true, List, ℕ, ◌≤◌, ◌<◌, min, get_or, leb}
use Rattle.std.proofs.Common.{arith}
use Rattle.lists.specs.Lists.{fill}
use Rattle.lists.specs.Tests.{leb-is, tests, same_test}
use Rattle.rules.specs.Limits.{sizes_ok}
use Rattle.rules.specs.declared.Sizes.{Sizes}
use Rattle.rules.specs.declared.Session.{Session}
use Rattle.boundary_numbers.specs.Numbers.{session_in, session_numbers}

-- What lies below the most stays.
capped : (n most : ℕ) → n ≤ most → min n most ≡ n
capped n most h = omega arith

-- A session inside the limits, kept in a room, is the session that the room stands for.
pub read_back : (s : Session) (room : List ℕ) → sizes_ok s.sizes ≡ true → leb s.live 1 ≡ true → session_in (fill (session_numbers s) room) ≡ s
unfolding sizes_ok
read_back s room h g =
    let k = simp tests at h in
    let l = (leb-is s.live 1).0 g in
    let a = capped s.sizes.states 65535 (omega arith) in
    let b = capped s.sizes.actions 255 (omega arith) in
    let c = capped s.sizes.propositions 255 (omega arith) in
    let d = capped s.sizes.variables 255 (omega arith) in
    let e = capped s.sizes.blocks 255 (omega arith) in
    let f = capped s.live 255 (omega arith) in
    λ i. record {
      sizes = record { states = a i; actions = b i; propositions = c i; variables = d i; blocks = e i };
      live = f i;
      moves = s.moves;
      stamp = s.stamp;
    }

-- The sizes in a room as the numbers are, however large.
abbrev pub sizes_as : List ℕ → Sizes
sizes_as room = record {
  states = get_or room 0 0;
  actions = get_or room 1 0;
  propositions = get_or room 2 0;
  variables = get_or room 3 0;
  blocks = get_or room 4 0;
}

-- Below what it is cut to, a number and what it is cut to pass the same_test tests.
cut_below : (n most limit : ℕ) → limit < most → leb (min n most) limit ≡ leb n limit
cut_below n most limit h =
    same_test (leb (min n most) limit) (leb n limit) (λ e. let k = (leb-is (min n most) limit).0 e in (leb-is n limit).1 (omega arith))
    (λ e. let k = (leb-is n limit).0 e in (leb-is (min n most) limit).1 (omega arith))

cut-above : (n most least : ℕ) → least ≤ most → leb least (min n most) ≡ leb least n
cut-above n most least h =
    same_test (leb least (min n most)) (leb least n) (λ e. let k = (leb-is least (min n most)).0 e in (leb-is least n).1 (omega arith))
    (λ e. let k = (leb-is least n).0 e in (leb-is least (min n most)).1 (omega arith))

-- So the sizes read are inside the limits exactly where the numbers are, and the flag read is 0 or 1 exactly where its number is.
pub cut-is-outside : (room : List ℕ)
    → (sizes_ok (session_in room).sizes ≡ sizes_ok (sizes_as room)) × (leb (session_in room).live 1 ≡ leb (get_or room 7 0) 1)
unfolding sizes_ok
cut-is-outside room = (
  rw (
    cut_below (get_or room 0 0) 65535 256 (omega arith),
    cut-above (get_or room 0 0) 65535 1 (omega arith),
    cut_below (get_or room 1 0) 255 16 (omega arith),
    cut-above (get_or room 1 0) 255 1 (omega arith),
    cut_below (get_or room 2 0) 255 32 (omega arith),
    cut_below (get_or room 3 0) 255 32 (omega arith),
    cut-above (get_or room 3 0) 255 1 (omega arith),
    cut_below (get_or room 4 0) 255 8 (omega arith),
  ) refl,
  cut_below (get_or room 7 0) 255 1 (omega arith),
)
