-- The lists of a room, and that they stay the same lists.
use Rattle.std.specs.Prelude.{◌≡◌}
use Rattle.job.specs.Read.{Lists, lists_of}
use Rattle.job.specs.declared.room.Room.{Room}

abbrev pub lists_in : Room → Lists
lists_in r = lists_of r.query.now r.hashes.now r.starts.now r.ends.now r.identities.now r.uppers.now r.identity_bits.now r.upper_bits.now

-- each reference is what it was
pub record SameLists (old new : Room) : Type 0 where
  pub query : new.query.ghost_name ≡ old.query.ghost_name
  pub hashes : new.hashes.ghost_name ≡ old.hashes.ghost_name
  pub starts : new.starts.ghost_name ≡ old.starts.ghost_name
  pub ends : new.ends.ghost_name ≡ old.ends.ghost_name
  pub identities : new.identities.ghost_name ≡ old.identities.ghost_name
  pub uppers : new.uppers.ghost_name ≡ old.uppers.ghost_name
  pub identity_bits : new.identity_bits.ghost_name ≡ old.identity_bits.ghost_name
  pub upper_bits : new.upper_bits.ghost_name ≡ old.upper_bits.ghost_name
