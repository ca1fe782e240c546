mod Watches
