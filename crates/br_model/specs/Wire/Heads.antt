-- What every header that was read from bytes keeps.
-- Source: IEEE 802.3 clause 3.2, IEEE 802.1Q-2018 section 9.6 (the tag's fields); the longest frame is this profile's.
use Rattle.std.specs.Prelude.{◌≡◌, ℕ, ◌<◌, ◌≤◌, Option, Some, None}
use Rattle.br_model.specs.declared.frame.Head.{Head}
use Rattle.br_model.specs.declared.frame.Tag.{Tag}

-- a priority of 3 bits and a VLAN identifier of 12
abbrev pub TagFits : Option Tag → Type 0
TagFits None = Unit {0}
TagFits (Some tag) = (tag.pcp < 8) × (tag.vid < 4096)

-- where the payload begins, by whether there is a tag
abbrev pub body_of : Option Tag → ℕ
body_of None = 14
body_of (Some tag) = 18

-- the header of a frame of so many bytes
pub record IsHead (size : ℕ) (head : Head) : Type 0 where
  pub shortest : 14 ≤ size
  pub longest : size ≤ 9022
  pub body : head.body ≡ body_of head.tag
  pub within : head.body ≤ size
  pub tag : TagFits head.tag
